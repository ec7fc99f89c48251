use Rattle.std.proofs.Common.{◌≡◌, ◌↔◌, ◌≤◌, ◌∙◌, length, IsTrue, ℕ, Bool, List, ◌++◌, take, drop, replicate, ap, sym, subst, arith, length-take}
use Rattle.std.proofs.lemmas.List.{take_at}
use lib.Pointwise.{pointwise, bytes_decides}
use lib.Dec.{eqb}
use Rattle.fe_disk.specs.Disk.{bytes_at}
use Rattle.fe_disk.proofs.sample.Sample.is_in.Goals as goal

decided : (result : Bool) (found kept : List ℕ) → result ≡ pointwise eqb found kept → IsTrue result ↔ (found ≡ kept)
decided result found kept is = ((λ yes. (bytes_decides found kept).0 (sym is ∙ yes)), (λ same. is ∙ (bytes_decides found kept).1 same))

pub returns : goal.returns
returns g c = record {
  found = λ honest.
      let new = c.read_back.new.buffer in
      let n = c.args.self.now.length in
      let read = c.in_ok-read_back.ensures.read honest in
      let fits : n ≤ 96 = c.args.self.now.fits in
      let long : length new ≡ n = c.read_back.auto.buffer ∙ length-take n (replicate 96 0) ∙ omega (arith, fits) in
      let front : take n (new ++ drop n (replicate 96 0)) ≡ bytes_at (g.F.StoreFile.contents c.args.file.now) c.args.self.now.at n =
      take_at new _ n long ∙ read ∙ ap (λ (k : ℕ). bytes_at (g.F.StoreFile.contents c.args.file.now) c.args.self.now.at k) (sym c.read_back.auto.buffer ∙ long) in
      subst (λ (l : List ℕ). IsTrue c.eq.result ↔ (l ≡ take n c.args.self.now.bytes)) front (decided c.eq.result _ _ c.eq.ensures);
}
