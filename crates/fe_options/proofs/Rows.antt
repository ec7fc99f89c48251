-- A level of a parse without a fault leaves a value in each of its rows.
use Rattle.std.proofs.Common.{◌≡◌, ◌<◌, ◌&&◌, ℕ, Bool, true, false, zero, suc, cond, refl, List, [], ◌∷◌, ◌++◌, length, drop, Option, Some, None, is_some}
use Rattle.std.specs.Prelude.{IfSome, encode_utf8, find, fold, slice_get}
use Rattle.std.specs.List.{AllByRecursion}
use Rattle.std.specs.Option.{option_map_or}
use Rattle.std.specs.Str.{bytes_eq, chars}
use Rattle.std.proofs.lemmas.Bool.{cond_both}
use Rattle.clap.specs.Lexer.{short_of, long_of}
use Rattle.clap.specs.Walk.{Held, Names, Outcome, done, waits, plain, refused, Row, Rule, Step, next, trailing, subcommand, value, Text, Waiting, idle, option, positional, Walk, after_flag, after_step, arg_by_id, arg_by_index, arg_by_long, arg_by_short, at_row, attached_value, bundle_met, bundle_step, flag_met, is_pending, long_met, long_or_other, option_met, option_word, plain_word, reacted, settled, settled_rows, short_met, short_or_plain, subcommand_met, subcommand_or_other, takes_several, takes_values, to_positional, used, used_by_id, walked, walked_from, word_met}
use Rattle.clap.specs.Simple.{Shape}
use Rattle.clap.specs.Kinds.{Kinds, or_else}
use Rattle.clap.specs.Faults.{bundle_step_fault, flag_word_fault, flags_fault, long_fault, option_fault, other_fault, positional_fault, react_fault, settle_fault, short_fault, step_fault, stray_fault, turn_fault, use_fault, walk_fault, word_fault}

pub both_none : (a b : Kinds) → or_else a b ≡ [] → (a ≡ []) × (b ≡ [])
both_none [] b e = (refl, e)
both_none (k ∷ ks) b e = absurd cc

-- each row has a value
abbrev pub AreFilled : List Row → Type 0
AreFilled = AllByRecursion (λ r. 0 < length r.values)

-- a use without a fault keeps them so
abbrev pub Fills : Rule → Type 0
Fills a = (again : Bool) (values : List Text) (rows : List Row) → use_fault again a values rows ≡ [] → AreFilled rows → AreFilled (used a values rows)

append_filled : (xs ys : List Row) → AreFilled xs → AreFilled ys → AreFilled (xs ++ ys)
append_filled [] ys p q = q
append_filled (x ∷ xs) ys p q = (p.0, append_filled xs ys p.1 q)

pub at_filled : (id : Text) (change : Row → List Row) (missing rows : List Row) → ((r : Row) → 0 < length r.values → AreFilled (change r)) → AreFilled missing → AreFilled rows → AreFilled (at_row id change missing rows)
at_filled id change missing [] each p h = p
at_filled id change missing (r ∷ rs) each p h = cond_both (bytes_eq r.id id) _ _ AreFilled (λ e. append_filled (change r) rs (each r h.0) h.1) (λ e. (h.0, at_filled id change missing rs each p h.1))

-- what a search finds is in the list
pub found : {X : Type 0} (P : X → Type 0) (p : X → Bool) (xs : List X) → AllByRecursion P xs → IfSome (find p xs) P
found P p [] all = tt
found P p (x ∷ xs) all = cond_both (p x) (Some x) (find p xs) (λ o. IfSome o P) (λ e. all.0) (λ e. found P p xs all.1)

-- ---- one word

module _ (c : List Rule) (again : Bool) (all : AllByRecursion Fills c) where
  used_filled : (o : Option Rule) (values : List Text) (rows : List Row) → IfSome o Fills → option_map_or (λ a. use_fault again a values rows) o [] ≡ [] → AreFilled rows → AreFilled (used_by_id o values rows)
  used_filled None values rows fills e h = h
  used_filled (Some a) values rows fills e h = fills again values rows e h

  settled_filled : (p : Option (Text × List Text)) (rows : List Row) → option_map_or (λ q. option_map_or (λ a. use_fault again a q.1 rows) (arg_by_id c q.0) []) p [] ≡ [] → AreFilled rows → AreFilled (settled_rows c p rows)
  settled_filled None rows e h = h
  settled_filled (Some q) rows e h = used_filled (arg_by_id c q.0) q.1 rows (found Fills (λ a. bytes_eq a.id q.0) c all) e h

  reacted_filled : (a : Rule) (values : List Text) (h : Held) → Fills a → react_fault c again a values h ≡ [] → AreFilled h.rows → AreFilled (reacted c a values h).rows
  reacted_filled a values h fills e p =
      let parts = both_none (settle_fault c again h) (use_fault again a values (settled c h).rows) e in
      fills again values (settled c h).rows parts.1 (settled_filled h.pending h.rows parts.0 p)

  option_filled : (a : Rule) (v : Option Text) (h : Held) → Fills a → option_fault c again a v h ≡ [] → AreFilled h.rows → AreFilled (option_met c a v h).0.rows
  option_filled a (Some v) h fills e p = reacted_filled a (v ∷ []) h fills e p
  option_filled a None h fills e p = settled_filled h.pending h.rows e p

  long_some : (takes : Bool) (a : Rule) (v : Option Text) (h : Held) (unneeded : Kinds) → Fills a
      → cond takes (option_fault c again a v h) (cond (is_some v) unneeded (react_fault c again a [] h)) ≡ [] → AreFilled h.rows
      → AreFilled (cond takes (option_met c a v h) (flag_met c a v h)).0.rows
  long_some true a v h unneeded fills e p = option_filled a v h fills e p
  long_some false a (Some v) h unneeded fills e p = p
  long_some false a None h unneeded fills e p = reacted_filled a [] h fills e p

  long_filled : (o : Option Rule) (v : Option Text) (h : Held) → IfSome o Fills → long_fault c again o v h ≡ [] → AreFilled h.rows → AreFilled (long_met c o v h).0.rows
  long_filled None v h fills e p = p
  long_filled (Some a) v h fills e p = long_some (takes_values a) a v h _ fills e p

  short_some : (takes : Bool) (a : Rule) (rest : Text) (h : Held) (fault : Held → Kinds) (met : Held → Held × Outcome) → Fills a
      → ((k : Held) → fault k ≡ [] → AreFilled k.rows → AreFilled (met k).0.rows)
      → cond takes (option_fault c again a (attached_value rest) h) (or_else (react_fault c again a [] h) (fault (reacted c a [] h))) ≡ [] → AreFilled h.rows
      → AreFilled (cond takes (option_met c a (attached_value rest) h) (met (reacted c a [] h))).0.rows
  short_some true a rest h fault met fills each e p = option_filled a (attached_value rest) h fills e p
  short_some false a rest h fault met fills each e p =
      let parts = both_none (react_fault c again a [] h) (fault (reacted c a [] h)) e in
      each (reacted c a [] h) parts.1 (reacted_filled a [] h fills parts.0 p)

  short_filled : (o : Option Rule) (rest : Text) (h : Held) (fault : Held → Kinds) (met : Held → Held × Outcome) → IfSome o Fills
      → ((k : Held) → fault k ≡ [] → AreFilled k.rows → AreFilled (met k).0.rows)
      → short_fault c again o rest h fault ≡ [] → AreFilled h.rows → AreFilled (short_met c o rest h met).0.rows
  short_filled None rest h fault met fills each e p = p
  short_filled (Some a) rest h fault met fills each e p = short_some (takes_values a) a rest h fault met fills each e p

  step_filled : (o : Option ℕ) (flags : Text) (skip : ℕ) (so_far : Outcome) (h : Held) (fault : Text → ℕ → Held → Kinds) (met : Text → ℕ → Outcome → Held → Held × Outcome)
      → ((flags : Text) (skip : ℕ) (so_far : Outcome) (k : Held) → fault flags skip k ≡ [] → AreFilled k.rows → AreFilled (met flags skip so_far k).0.rows)
      → bundle_step_fault c again o flags skip h fault ≡ [] → AreFilled h.rows → AreFilled (bundle_step c o flags skip so_far h met).0.rows
  step_filled None flags skip so_far h fault met each e p = p
  step_filled (Some x) flags zero so_far h fault met each e p =
      let rest : Text = drop (length (encode_utf8 x)) flags in
      short_filled (arg_by_short c x) rest h (fault rest 0) (met rest 0 done) (found Fills _ c all) (each rest 0 done) e p
  step_filled (Some x) flags (suc skip) so_far h fault met each e p = each (drop (length (encode_utf8 x)) flags) skip so_far h e p

  bundle_filled : (k : ℕ) (flags : Text) (skip : ℕ) (so_far : Outcome) (h : Held) → flags_fault c again k flags skip h ≡ [] → AreFilled h.rows → AreFilled (bundle_met c k flags skip so_far h).0.rows
  unfolding flags_fault bundle_met
  bundle_filled zero flags skip so_far h e p = p
  bundle_filled (suc k) flags skip so_far h e p = step_filled (slice_get (chars flags) 0) flags skip so_far h (flags_fault c again k) (bundle_met c k) (bundle_filled k) e p

  option_word_filled : (o : Option Rule) (id word : Text) (h : Held) → AreFilled h.rows → AreFilled (option_word o id word h).0.rows
  option_word_filled None id word h p = p
  option_word_filled (Some a) id word h p = p

  plain_filled : (waiting : Waiting) (word : Text) (h : Held) → AreFilled h.rows → AreFilled (plain_word c waiting word h).0.rows
  plain_filled idle word h p = p
  plain_filled (option id) word h p = option_word_filled (arg_by_id c id) id word h p
  plain_filled positional word h p = p

  after_filled : (waiting : Waiting) (word : Text) (h : Held) (o : Outcome) → AreFilled h.rows → AreFilled (after_flag c waiting word h o).0.rows
  after_filled waiting word h done p = p
  after_filled waiting word h (waits id) p = p
  after_filled waiting word h plain p = plain_filled waiting word h p
  after_filled waiting word h refused p = plain_filled waiting word h p

  short_word_filled : (waiting : Waiting) (word : Text) (o : Option Text) (h : Held) → option_map_or (λ flags. flags_fault c again (length flags) flags h.skip (record h { skip = 0 })) o [] ≡ [] → AreFilled h.rows → AreFilled (short_or_plain c waiting word o h).0.rows
  short_word_filled waiting word None h e p = plain_filled waiting word h p
  short_word_filled waiting word (Some flags) h e p = after_filled waiting word _ _ (bundle_filled (length flags) flags h.skip plain (record h { skip = 0 }) e p)

  flag_word_filled : (waiting : Waiting) (word : Text) (o : Option (Text × Option Text)) (h : Held) → flag_word_fault c again o word h ≡ [] → AreFilled h.rows → AreFilled (long_or_other c waiting word o h).0.rows
  flag_word_filled waiting word None h e p = short_word_filled waiting word (short_of word) h e p
  flag_word_filled waiting word (Some q) h e p = after_filled waiting word _ _ (long_filled (arg_by_long c q.0) q.1 h (found Fills _ c all) e p)

-- ---- the walk

module _ (s : Shape) (all : AllByRecursion Fills s.rules) where
  no_flag_filled : (is_dash : Bool) (waiting : Waiting) (position : ℕ) (word : Text) (h : Held)
      → cond is_dash [] (flag_word_fault s.rules s.args_override_self (long_of word) word h) ≡ [] → AreFilled h.rows
      → AreFilled (cond is_dash (h, trailing position) (long_or_other s.rules waiting word (long_of word) h)).0.rows
  no_flag_filled true waiting position word h e p = p
  no_flag_filled false waiting position word h e p = flag_word_filled s.rules s.args_override_self all waiting word (long_of word) h e p

  other_filled : (met : Option Text) (waiting : Waiting) (position : ℕ) (word : Text) (h : Held) → other_fault s met word h ≡ [] → AreFilled h.rows
      → AreFilled (subcommand_or_other s.rules met waiting position word h).0.rows
  other_filled (Some name) waiting position word h e p = p
  other_filled None waiting position word h e p = no_flag_filled (bytes_eq word (45 ∷ 45 ∷ [])) waiting position word h e p

  word_filled : (names : Names) (is_trailing : Bool) (waiting : Waiting) (position : ℕ) (word : Text) (h : Held) → word_fault s names is_trailing waiting word h ≡ [] → AreFilled h.rows
      → AreFilled (word_met s.rules names is_trailing waiting position word h).0.rows
  word_filled names true waiting position word h e p = p
  word_filled names false waiting position word h e p = other_filled (subcommand_met names waiting word) waiting position word h e p

  held_filled : (is_more : Bool) (a : Rule) (word : Text) (h : Held) → cond is_more [] (settle_fault s.rules s.args_override_self h) ≡ [] → AreFilled h.rows
      → AreFilled (cond is_more h (settled s.rules h)).rows
  held_filled true a word h e p = p
  held_filled false a word h e p = settled_filled s.rules s.args_override_self all h.pending h.rows e p

  value_filled : (o : Option Rule) (word : Text) (w : Walk) (h : Held) → option_map_or (λ a. positional_fault s.rules s.args_override_self a h) o (stray_fault s) ≡ [] → AreFilled h.rows
      → AreFilled (to_positional s.rules o word w h).held.rows
  value_filled None word w h e p = p
  value_filled (Some a) word w h e p = held_filled (is_pending a h.pending && takes_several a) a word h e p

  after_step_filled : (word : Text) (w : Walk) (h : Held) (step : Step) → step_fault s w.position h step ≡ [] → AreFilled h.rows → AreFilled (after_step s.rules word w h step).held.rows
  after_step_filled word w h (next waiting) e p = p
  after_step_filled word w h (trailing position) e p = p
  after_step_filled word w h (subcommand name) e p = p
  after_step_filled word w h value e p = value_filled (arg_by_index s.rules w.position) word w h e p

  turn_filled : (names : Names) (stopped : Option (Text × List Text)) (w : Walk) (word : Text)
      → cond (is_some stopped) [] (or_else (word_fault s names w.is_trailing w.waiting word w.held) (step_fault s w.position (word_met s.rules names w.is_trailing w.waiting w.position word w.held).0 (word_met s.rules names w.is_trailing w.waiting w.position word w.held).1)) ≡ []
      → AreFilled w.held.rows → AreFilled (walked_from s.rules names stopped w word).held.rows
  turn_filled names (Some q) w word e p = p
  turn_filled names None w word e p =
      let met = word_met s.rules names w.is_trailing w.waiting w.position word w.held in
      let parts = both_none (word_fault s names w.is_trailing w.waiting word w.held) (step_fault s w.position met.0 met.1) e in
      after_step_filled word w met.0 met.1 parts.1 (word_filled names w.is_trailing w.waiting w.position word w.held parts.0 p)

  pub walk_filled : (names : Names) (w : Walk) (words : List Text) → walk_fault s names w words ≡ [] → AreFilled w.held.rows → AreFilled (fold (walked s.rules names) w words).held.rows
  unfolding walk_fault walked
  walk_filled names w [] e p = p
  walk_filled names w (word ∷ rest) e p =
      let parts = both_none (turn_fault s names w word) (walk_fault s names (walked s.rules names w word) rest) e in
      walk_filled names (walked s.rules names w word) rest parts.1 (turn_filled names w.stopped w word parts.0 p)

  pub end_filled : (h : Held) → settle_fault s.rules s.args_override_self h ≡ [] → AreFilled h.rows → AreFilled (settled s.rules h).rows
  end_filled h e p = settled_filled s.rules s.args_override_self all h.pending h.rows e p
