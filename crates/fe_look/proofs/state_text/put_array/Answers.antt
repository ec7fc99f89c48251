use Rattle.std.proofs.Common.{List, ℕ, subst, sym}
use Rattle.std.specs.Str.{IsUtf8}
use Rattle.fe_look.proofs.TextLemmas.{name_is_text, read_ok}
use Rattle.fe_look.proofs.state_text.put_array.Goals as goal

pub unwrap-name-requires : goal.unwrap-name-requires
unwrap-name-requires c = read_ok _ _ _ _ c.from_utf8.ensures.cases (subst (λ (t : List ℕ). IsUtf8 t) (sym c.bytes.ensures.bytes) (name_is_text c.args.name.now c.requires))
