-- Lives of a store, one after the other: what each stop kept and what comes after the last are one history.
use Rattle.std.proofs.Common.{◌≡◌, List, [], ◌∷◌, ◌++◌, take, drop, sym, ap, ◌∙◌, subst, refl, append_assoc}
use Rattle.std.proofs.lemmas.List.{take-append-drop}
use Rattle.fe_state.specs.State.{ServerState, after_all}
use Rattle.fe_state.specs.History.{IsHistory, after_groups}
use Rattle.fe_state.specs.declared.entry.Entry.{Entry}
use Rattle.fe_state.proofs.Histories.{history-append, history-cut}
use Rattle.fe_desk.specs.Lives.{Life, AreOne, LivesJoin, kept_groups}

pub after_groups-append : (s : ServerState) (front rest : List (List Entry)) → after_groups s (front ++ rest) ≡ after_groups (after_groups s front) rest
after_groups-append s [] rest = refl
after_groups-append s (group ∷ groups) rest = after_groups-append (after_all s group) groups rest

-- one life more, before the others
one_more : (begun s : ServerState) (groups : List (List Entry)) (kept : List (List Entry)) (behind : List (List Entry)) (lives : List Life) (next : List (List Entry))
    → groups ≡ kept ++ behind → IsHistory begun groups → AreOne (after_groups begun kept) lives s next
    → IsHistory begun ((kept ++ kept_groups lives) ++ next) × (after_groups begun ((kept ++ kept_groups lives) ++ next) ≡ after_groups s next)
one_more begun s groups kept behind lives next whole is rest =
    let front = (history-cut begun kept behind (subst (λ (h : List (List Entry)). IsHistory begun h) whole is)).0 in
    let same : (kept ++ kept_groups lives) ++ next ≡ kept ++ (kept_groups lives ++ next) = append_assoc kept (kept_groups lives) next in (
      subst (λ (h : List (List Entry)). IsHistory begun h) (sym same) (history-append begun kept (kept_groups lives ++ next) front rest.history),
      ap (λ (h : List (List Entry)). after_groups begun h) same ∙ after_groups-append begun kept (kept_groups lives ++ next) ∙ rest.leads,
    )

pub lives_join : LivesJoin
lives_join begun s [] next are goes_on =
    record {
      history = subst (λ (z : ServerState). IsHistory z next) are goes_on;
      leads = ap (λ (z : ServerState). after_groups z next) (sym are);
    }
lives_join begun s (life ∷ lives) next are goes_on =
    let kept : List (List Entry) = take life.kept life.groups in
    let rest = lives_join (after_groups begun kept) s lives next are.3 goes_on in
    let whole : life.groups ≡ kept ++ drop life.kept life.groups = sym (take-append-drop life.kept life.groups) in
    let both = one_more begun s life.groups kept (drop life.kept life.groups) lives next whole are.0 rest in
    record { history = both.0; leads = both.1 }
