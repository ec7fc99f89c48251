use Rattle.std.proofs.Common.{◌++◌, ◌∙◌, ℕ, string_bytes, sym, ap, arith}
use Rattle.std.specs.FinMap.{entries, len-entries}
use Rattle.fe_codec.proofs.Elements.{found_within}
use Rattle.fe_look.specs.Look.{line_of_session, session_line}
use Rattle.fe_look.proofs.TextLemmas.{line_more, all_lines}
use Rattle.fe_look.proofs.state_text.put_sessions.Goals.{in-Some+in_ok-put_session, in_default}
use Rattle.fe_look.proofs.state_text.put_sessions.Goals as goal

pub loop-k-preserved : goal.loop-k-preserved
loop-k-preserved c =
    elim c.match-session_entry.branch [
      | in-Some+in_ok-put_session w ↦
          rw w.text-is (line_more session_line (entries c.args.state.now.sessions) c.loop-k.k _ _ _ _ (sym w.in-Some.ensures) c.loop-k.invariant (w.in_ok-put_session.ensures ∙ ap (λ (n : ℕ). string_bytes c.loop-k.text ++ line_of_session w.in-Some.number w.in-Some.floor n) w.len.ensures.count))
      | in_default w ↦ absurd (found_within _ c.session_entry.result (entries c.args.state.now.sessions) c.loop-k.k c.session_entry.ensures (omega (arith, len-entries c.args.state.now.sessions)) w.in_default.is)
    ]

pub returns : goal.returns
returns c = all_lines session_line (entries c.args.state.now.sessions) c.loop-k.k _ _ (omega (arith, len-entries c.args.state.now.sessions)) c.loop-k.invariant
