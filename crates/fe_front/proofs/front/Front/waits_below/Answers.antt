use Rattle.std.proofs.Common.{◌≡◌, Option, Some, None, refl, sym, ap, subst, ◌∙◌, arith}
use Rattle.std.specs.Prelude.{is_some}
use Rattle.std.specs.Option.{option_map}
use Rattle.std.specs.FinMap.{get}
use Rattle.fe_front.proofs.Below.{NoneBelow, below-none, below-some, none_below-next, none_below-floor}
use Rattle.fe_front.proofs.front.Front.waits_below.Goals as goal

some_mapped : {X Y : Type 0} (f : X → Y) (o : Option X) → is_some (option_map f o) ≡ is_some o
some_mapped f None = refl
some_mapped f (Some x) = refl

pub loop-number-init : goal.loop-number-init
loop-number-init c = subst (λ n. NoneBelow c.args.self.now.service.waiting c.args.session n) (sym c.floor-number.ensures) (none_below-floor c.args.self.now.service c.args.session c.state.ensures.front.service)

pub loop-number-preserved : goal.loop-number-preserved
loop-number-preserved c =
    let waiting = c.args.self.now.service.waiting in
    let none = sym (some_mapped _ (get waiting (c.args.session, c.loop-number.number))) ∙ sym (ap is_some c.waiting.ensures) ∙ sym c.is_some.ensures ∙ c.if-is_some.false in
    none_below-next waiting c.args.session c.loop-number.number c.loop-number.invariant none

pub returns-then-is_some : goal.returns-then-is_some
returns-then-is_some c =
    let waiting = c.args.self.now.service.waiting in
    let some = sym (some_mapped _ (get waiting (c.args.session, c.loop-number.number))) ∙ sym (ap is_some c.waiting.ensures) ∙ sym c.is_some.ensures ∙ c.if-is_some.true in
    sym (below-some waiting c.args.session c.loop-number.number c.args.floor c.loop-number-test.true some)

pub returns : goal.returns
returns c = sym (below-none c.args.self.now.service.waiting c.args.session c.args.floor (λ number w waits.
    let past = c.loop-number.invariant number w waits in
    omega (arith, past, c.loop-number-test.false)))
