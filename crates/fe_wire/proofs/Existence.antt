-- Every stream of bytes has a reading.
use Rattle.std.proofs.Common.{◌≡◌, ◌≢◌, ℕ, zero, suc, ◌+◌, ◌≤◌, ◌⊎◌, List, [], ◌∷◌, ◌++◌, length, drop, Option, Some, None, refl, sym, ap, ◌∙◌, append_assoc, arith, inl, inr}
use Rattle.std.specs.List.{flat_map}
use Rattle.std.proofs.lemmas.Bool.{cases_lt, cases_eq}
use Rattle.std.proofs.lemmas.Option.{none-some, same_Some}
use Rattle.std.proofs.lemmas.List.{take-append-drop, length-drop}
use Rattle.std.proofs.lemmas.List.Concat.{flat_map-cons}
use Rattle.fe_wire.specs.declared.client_message.ClientMessage.{ClientMessage}
use Rattle.fe_wire.specs.declared.version.Version.{Version}
use Rattle.fe_wire.specs.Spelling.{spelling, FitsIn}
use Rattle.fe_wire.specs.Reading.{message_of}
use Rattle.fe_wire.specs.Stream.{length_of_kind, longest, length_field, kind_field, front_frame, IsWhole, IsBad, IsUnfinished, HasReading, EachHasReading}
use Rattle.fe_codes.specs.Reading.{IsBytes}
use Rattle.fe_codes.proofs.Splits.{IsBytes-drop}
use Rattle.fe_wire.proofs.FrameLaws.{body_field, reads_frame, reads_none}

-- there is a whole message at the front
record HasFront (v : Version) (bytes : List ℕ) : Type 0 where
  message : ClientMessage
  fits : FitsIn v message
  whole : IsWhole bytes
  front : front_frame bytes ≡ spelling message

abbrev Decided : Version → List ℕ → Type 0
Decided v bytes = IsUnfinished v bytes ⊎ (IsBad v bytes ⊎ HasFront v bytes)

same_or_not : (o : Option ℕ) (n : ℕ) → (o ≡ Some n) ⊎ (o ≢ Some n)
same_or_not None n = inr (none-some n)
same_or_not (Some m) n = elim (cases_eq m n) [ inl e ↦ inl (ap (λ (k : ℕ). Some k) e) | inr ne ↦ inr (λ e. ne (same_Some m n e)) ]

by_body : (v : Version) (bytes : List ℕ) (o : Option ClientMessage) → IsBytes bytes → IsWhole bytes → 1 ≤ length_field bytes → length_of_kind v (kind_field bytes) ≡ Some (length_field bytes) → message_of (kind_field bytes) (body_field bytes) ≡ o → Decided v bytes
by_body v bytes (Some m) fits whole low kind e =
    let r = reads_frame v bytes m fits whole low kind e in
    inr (inr (record { message = m; fits = r.0; whole = whole; front = r.1 }))
by_body v bytes None fits whole low kind e = inr (inl (inr (inr (reads_none v bytes fits whole low e))))

by_kind : (v : Version) (bytes : List ℕ) → IsBytes bytes → 5 ≤ length bytes → 1 ≤ length_field bytes → length_field bytes ≤ longest v → Decided v bytes
by_kind v bytes fits five low high =
    elim (same_or_not (length_of_kind v (kind_field bytes)) (length_field bytes)) [
      | inr ne ↦ inr (inl (inr (inl (five, ne))))
      | inl e ↦ elim (cases_lt (length bytes) (4 + length_field bytes)) [
        | inl short ↦ inl (λ whole. omega arith, λ bad. elim bad [ inl h ↦ elim h.1 [ inl z ↦ omega arith | inr over ↦ omega arith ] | inr rest ↦ elim rest [ inl h ↦ h.1 e | inr h ↦ omega (arith, h.0) ] ])
        | inr whole ↦ by_body v bytes (message_of (kind_field bytes) (body_field bytes)) fits whole low e refl
      ]
    ]

by_length : (v : Version) (bytes : List ℕ) → IsBytes bytes → 4 ≤ length bytes → 1 ≤ length_field bytes → length_field bytes ≤ longest v → Decided v bytes
by_length v bytes fits four low high =
    elim (cases_lt (length bytes) 5) [
      | inl short ↦ inl (λ whole. omega arith, λ bad. elim bad [ inl h ↦ elim h.1 [ inl z ↦ omega arith | inr over ↦ omega arith ] | inr rest ↦ elim rest [ inl h ↦ omega (arith, h.0) | inr h ↦ omega (arith, h.0) ] ])
      | inr five ↦ by_kind v bytes fits five low high
    ]

decided : (v : Version) (bytes : List ℕ) → IsBytes bytes → Decided v bytes
decided v bytes fits =
    elim (cases_lt (length bytes) 4) [
      | inl short ↦ inl (λ whole. omega arith, λ bad. elim bad [ inl h ↦ omega (arith, h.0) | inr rest ↦ elim rest [ inl h ↦ omega (arith, h.0) | inr h ↦ omega (arith, h.0) ] ])
      | inr four ↦ elim (cases_lt (length_field bytes) 1) [
        | inl none ↦ let z : length_field bytes ≡ 0 = omega arith in inr (inl (inl (four, inl z)))
        | inr low ↦ elim (cases_lt (longest v) (length_field bytes)) [
          | inl over ↦ inr (inl (inl (four, inr over)))
          | inr high ↦ by_length v bytes fits four low high
        ]
      ]
    ]

begun : (v : Version) (bytes rest : List ℕ) (f : HasFront v bytes) → rest ≡ drop (4 + length_field bytes) bytes → HasReading v rest → HasReading v bytes
begun v bytes rest f same r = record {
  messages = f.message ∷ r.messages;
  rest = r.rest;
  is_stream = record {
    parts = sym (take-append-drop (4 + length_field bytes) bytes)
        ∙ ap (λ (t : List ℕ). t ++ drop (4 + length_field bytes) bytes) f.front
        ∙ ap (λ (t : List ℕ). spelling f.message ++ t) (sym same ∙ r.is_stream.parts)
        ∙ sym (append_assoc (spelling f.message) (flat_map spelling r.messages) r.rest)
        ∙ ap (λ (t : List ℕ). t ++ r.rest) (sym (flat_map-cons spelling f.message r.messages));
    each = (f.fits, r.is_stream.each);
    end = r.is_stream.end;
  };
}

-- the whole stream is its rest
ended : (v : Version) (bytes : List ℕ) → IsUnfinished v bytes ⊎ IsBad v bytes → HasReading v bytes
ended v bytes end = record { messages = []; rest = bytes; is_stream = record { parts = refl; each = tt; end = end } }

within : (v : Version) (fuel : ℕ) (bytes : List ℕ) → length bytes ≤ fuel → IsBytes bytes → HasReading v bytes
within v zero bytes le fits =
    elim (decided v bytes fits) [
      | inl u ↦ ended v bytes (inl u)
      | inr d ↦ elim d [ inl b ↦ ended v bytes (inr b) | inr f ↦ let w = f.whole in absurd (omega (arith, w, le)) ]
    ]
within v (suc fuel) bytes le fits =
    elim (decided v bytes fits) [
      | inl u ↦ ended v bytes (inl u)
      | inr d ↦ elim d [
        | inl b ↦ ended v bytes (inr b)
        | inr f ↦
            let rest : List ℕ = drop (4 + length_field bytes) bytes in
            let w = f.whole in
            let shorter : length rest ≤ fuel = omega (arith, length-drop (4 + length_field bytes) bytes, w, le) in
            begun v bytes rest f refl (within v fuel rest shorter (IsBytes-drop (4 + length_field bytes) bytes fits))
      ]
    ]

pub each_has_reading : EachHasReading
each_has_reading v bytes fits = within v (length bytes) bytes (omega arith) fits
