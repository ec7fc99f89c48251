-- What a stop left of a history, and the history that goes on from there.
use Rattle.std.proofs.Common.{◌≡◌, List, [], ◌∷◌, ◌++◌, take, drop, sym, ◌∙◌, ap, subst, refl}
use Rattle.std.proofs.lemmas.List.{take-append-drop}
use Rattle.fe_state.specs.State.{ServerState, after_all}
use Rattle.fe_state.specs.History.{IsHistory, after_groups}
use Rattle.fe_state.specs.declared.entry.Entry.{Entry}
use Rattle.fe_state.proofs.Histories.{history-append, history-cut}
use Rattle.fe_keeper.specs.Damage.{StopsJoin}

pub after_groups-append : (s : ServerState) (front rest : List (List Entry)) → after_groups s (front ++ rest) ≡ after_groups (after_groups s front) rest
after_groups-append s [] rest = refl
after_groups-append s (group ∷ groups) rest = after_groups-append (after_all s group) groups rest

pub stops_join : StopsJoin
stops_join beginning s history next k is prefix goes_on =
    let kept : List (List Entry) = take prefix.kept history in
    let whole : history ≡ kept ++ drop prefix.kept history = sym (take-append-drop prefix.kept history) in
    let front = (history-cut beginning kept (drop prefix.kept history) (subst (λ (h : List (List Entry)). IsHistory beginning h) whole is)).0 in
    record {
      kept = prefix.kept;
      least = prefix.least;
      most = prefix.most;
      is_history = history-append beginning kept next front (subst (λ (z : ServerState). IsHistory z next) prefix.state_is goes_on);
      leads = after_groups-append beginning kept next ∙ ap (λ (z : ServerState). after_groups z next) (sym prefix.state_is);
    }
