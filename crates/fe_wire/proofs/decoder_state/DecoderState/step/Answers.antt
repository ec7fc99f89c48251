use Rattle.std.proofs.Common.{◌≡◌, ℕ, ◌+◌, ◌^◌, ◌-◌, ◌≤◌, min, List, [], ◌++◌, take, length, refl, sym, ap, subst, ◌∙◌, arith, length-take-le}
use Rattle.std.proofs.lemmas.List.{take_all, take_at}
use Rattle.fe_wire.specs.Spelling.{FitsIn}
use Rattle.fe_wire.specs.Stream.{IsUnfinished, IsBad, held_of}
use Rattle.fe_wire.specs.declared.decoder_state.DecoderState.{DecoderState}
use Rattle.fe_wire.specs.declared.version.Version.{Version}
use Rattle.fe_wire.proofs.StreamLaws.{whole_is_held}
use Rattle.fe_wire.proofs.Pieces.{goes_unfinished, goes_bad, goes_whole}
use Rattle.fe_wire.proofs.decoder_state.DecoderState.step.Goals as goal

-- nothing is stored
empty : (state : DecoderState) → state.len ≤ 0 → held_of state ≡ []
empty state none = let zero : state.len ≡ 0 = omega arith in ap (λ (n : ℕ). take n state.cells) zero

-- what is read after nothing is everything that was read
alone : (held more piece : List ℕ) → held ≡ [] → piece ≡ more → piece ≡ held ++ more
alone held more piece none same = same ∙ ap (λ (t : List ℕ). t ++ more) (sym none)

-- the bytes copied to the front are stored
front : (piece copied others : List ℕ) → copied ≡ piece → take (length piece) (copied ++ others) ≡ piece
front piece copied others same = ap (λ (t : List ℕ). take (length piece) (t ++ others)) same ∙ take_at piece others (length piece) refl

pub returns-in-Unfinished-clause-reads : goal.returns-in-Unfinished-clause-reads
returns-in-Unfinished-clause-reads c =
    let f = c.fill-count.ensures in
    let held : List ℕ = held_of c.fill-count.new.self in
    goes_unfinished c.args.self.now c.fill-count.new.self _ held c.requires.good f.version f.offset refl (f.is_bad ∙ c.requires.good) f.held
    (subst (λ (v : Version). IsUnfinished v held) f.version c.in-Unfinished.ensures)

pub returns-in-Bad-clause-reads : goal.returns-in-Bad-clause-reads
returns-in-Bad-clause-reads c =
    let f = c.fill-count.ensures in
    let held : List ℕ = held_of c.fill-count.new.self in
    goes_bad c.args.self.now _ _ held c.requires.good f.version f.offset refl refl f.held
    (subst (λ (v : Version). IsBad v held) f.version c.in-Bad.ensures)

pub returns-in-Whole-clause-reads : goal.returns-in-Whole-clause-reads
returns-in-Whole-clause-reads c =
    let f = c.fill-count.ensures in
    let held : List ℕ = held_of c.fill-count.new.self in
    let head = c.in-Whole.ensures in
    let long : length held ≡ c.fill-count.new.self.len = length-take-le c.fill-count.new.self.len c.fill-count.new.self.cells (omega arith) in
    let offset : c.saturating_add-self.result ≡ min (c.args.self.now.offset + length held) (2 ^ 64 - 1) = omega (arith, c.saturating_add-self.ensures, f.offset, long) in
    goes_whole c.args.self.now _ _ held c.in-Whole.message c.requires.good f.version offset refl (f.is_bad ∙ c.requires.good) f.held
    (subst (λ (v : Version). FitsIn v c.in-Whole.message) f.version head.0) (sym (whole_is_held held head.2 f.frame) ∙ head.1)

pub returns-in-Unfinished-head_of-clause-reads : goal.returns-in-Unfinished-head_of-clause-reads
returns-in-Unfinished-head_of-clause-reads c =
    let piece : List ℕ = c.args.piece.now in
    let none = empty c.args.self.now c.if-self-gt0.false in
    let all : piece ≡ take (length piece) piece = sym (take_all (length piece) piece (omega arith)) in
    let same : c.copy_from_slice.new.self ≡ piece = c.copy_from_slice.ensures.after in
    goes_unfinished c.args.self.now _ _ piece c.requires.good refl refl (front piece c.copy_from_slice.new.self _ same) c.requires.good (alone (held_of c.args.self.now) _ piece none all) c.in-Unfinished-head_of.ensures

pub returns-in-Bad-head_of-clause-reads : goal.returns-in-Bad-head_of-clause-reads
returns-in-Bad-head_of-clause-reads c =
    let piece : List ℕ = c.args.piece.now in
    let none = empty c.args.self.now c.if-self-gt0.false in
    let all : piece ≡ take (length piece) piece = sym (take_all (length piece) piece (omega arith)) in
    goes_bad c.args.self.now _ _ piece c.requires.good refl refl none refl (alone (held_of c.args.self.now) _ piece none all) c.in-Bad-head_of.ensures

pub returns-in-Whole-head_of-clause-reads : goal.returns-in-Whole-head_of-clause-reads
returns-in-Whole-head_of-clause-reads c =
    let piece : List ℕ = c.args.piece.now in
    let none = empty c.args.self.now c.if-self-gt0.false in
    let head = c.in-Whole-head_of.ensures in
    let held : List ℕ = take c.in-Whole-head_of.count piece in
    let within : c.in-Whole-head_of.count ≤ length piece = omega (arith, head.2, head.3) in
    let long : length held ≡ c.in-Whole-head_of.count = length-take-le c.in-Whole-head_of.count piece within in
    let offset : c.saturating_add-self-in-Whole-head_of.result ≡ min (c.args.self.now.offset + length held) (2 ^ 64 - 1) = omega (arith, c.saturating_add-self-in-Whole-head_of.ensures, long) in
    let spelled = ap (λ (n : ℕ). take n piece) head.3 ∙ head.1 in
    goes_whole c.args.self.now _ _ held c.in-Whole-head_of.message c.requires.good refl offset none c.requires.good (alone (held_of c.args.self.now) _ held none refl) head.0 spelled
