-- The bytes of a slot, put where they are in a store.
use Rattle.std.proofs.Common.{◌≡◌, ℕ, ◌+◌, ◌-◌, ◌<◌, ◌≤◌, List, ◌++◌, length, take, drop, set, get_or, Option, Some, None, inl, inr, sym, ◌∙◌, subst, refl, arith}
use Rattle.std.proofs.lemmas.List.{take_all, take-append-le, length-set, get_or-set_same, get_or-set_other}
use Rattle.fe_disk.specs.Disk.{IsTorn, bytes_at, after_write}
use Rattle.fe_disk.proofs.Images.{length-bytes_at, IsTorn-after_write, bytes_at-after_write, bytes_at_elsewhere, torn_wider, torn_again}
use Rattle.fe_journal.specs.Layout.{header_of, gate_of, image_of, area_of, IsGateOpen}
use Rattle.fe_journal.proofs.Bytes.{SameBytes, same_back, same_through, same_part, same_bytes_at, part_same, known_same}
use Rattle.fe_look.specs.Slot.{EndsAt, IsAreaCopied, HasParts, IsSlotCopy}

pub set_torn : (l : List ℕ) (i v : ℕ) → IsTorn i 1 l (set l i v)
set_torn l i v =
    record { whole = length-set l i v; below = λ k low. get_or-set_other l i k v 0 (λ e. absurd (omega (arith, e))); above = λ k high. get_or-set_other l i k v 0 (λ e. absurd (omega (arith, e))) }

-- bytes that were lent whole
pub lent_whole : (new items : List ℕ) (len : ℕ) → length new ≡ len → take len (new ++ drop (length new) items) ≡ new
lent_whole new items len long = take-append-le len new (drop (length new) items) (omega arith) ∙ take_all len new (omega arith)

-- parts that read the same
pub equal_same : (xs : List ℕ) (a : ℕ) (ys : List ℕ) (b n : ℕ) → a + n ≤ length xs → b + n ≤ length ys → bytes_at xs a n ≡ bytes_at ys b n → SameBytes xs a ys b n
equal_same xs a ys b n here there is = same_through (known_same xs a n (bytes_at ys b n) here is) (same_back (part_same ys b n there))

-- a part of the disk, put where it is on it
pub part_put : (seen old new : List ℕ) (at n : ℕ) → at + n ≤ length seen → at + n ≤ length old → new ≡ after_write old at (bytes_at seen at n) → IsTorn at n old new × (bytes_at new at n ≡ bytes_at seen at n)
part_put seen old new at n here there is =
    let part = bytes_at seen at n in
    let long : length part ≡ n = length-bytes_at seen at n here in
    let fits : at + length part ≤ length old = omega (arith, long) in (
      subst (λ (k : ℕ). IsTorn at k old new) long (subst (λ (l : List ℕ). IsTorn at (length part) old l) (sym is) (IsTorn-after_write old at part fits)),
      subst (λ (k : ℕ). bytes_at new at k ≡ part) long (subst (λ (l : List ℕ). bytes_at l at (length part) ≡ part) (sym is) (bytes_at-after_write old at part fits)),
    )

-- the same part, by equal names
pub put_as : (seen seen' old new : List ℕ) (at at' n n' : ℕ) → seen ≡ seen' → at ≡ at' → n ≡ n' → new ≡ after_write old at (bytes_at seen at n) → new ≡ after_write old at' (bytes_at seen' at' n')
put_as seen seen' old new at at' n n' same same_at same_n is =
    subst (λ (l : List ℕ). new ≡ after_write old at' (bytes_at l at' n')) same
    (subst (λ (k : ℕ). new ≡ after_write old k (bytes_at seen k n')) same_at (subst (λ (k : ℕ). new ≡ after_write old at (bytes_at seen at k)) same_n is))

-- the image, then the journal area, and then the gate that ends the groups, closed
module _ (seen start one two : List ℕ) (slot : ℕ) (is_slot : slot < 2) (whole : length seen ≡ 4202496) (room : length start ≡ 4202496) (first : one ≡ after_write start (image_of slot) (bytes_at seen (image_of slot) 1048576))
    (second : two ≡ after_write one (area_of slot) (bytes_at seen (area_of slot) 1048576)) where
  put_one : IsTorn (image_of slot) 1048576 start one × (bytes_at one (image_of slot) 1048576 ≡ bytes_at seen (image_of slot) 1048576)
  put_one = part_put seen start one (image_of slot) 1048576 (omega arith) (omega arith) first

  room_one : length one ≡ 4202496
  room_one = put_one.0.whole ∙ room

  put_two : IsTorn (area_of slot) 1048576 one two × (bytes_at two (area_of slot) 1048576 ≡ bytes_at seen (area_of slot) 1048576)
  put_two = let long = room_one in part_put seen one two (area_of slot) 1048576 (omega arith) (omega (arith, long)) second

  room_two : length two ≡ 4202496
  room_two = put_two.0.whole ∙ room_one

  image_put : bytes_at two (image_of slot) 1048576 ≡ bytes_at seen (image_of slot) 1048576
  image_put = bytes_at_elsewhere (area_of slot) 1048576 one two put_two.0 (image_of slot) 1048576 (inl (omega arith)) ∙ put_one.1

  torn_two : IsTorn (image_of slot) 2097152 start two
  torn_two =
      torn_again (image_of slot) 2097152 start one two (torn_wider (image_of slot) 2097152 (image_of slot) 1048576 start one (omega arith) (omega arith) put_one.0)
      (torn_wider (image_of slot) 2097152 (area_of slot) 1048576 one two (omega arith) (omega arith) put_two.0)

  pub parts_whole : HasParts seen slot start two
  parts_whole = record { end = None; image_is = image_put; area_is = put_two.1; elsewhere = torn_two }

  pub parts_closed : (end : ℕ) → end < 1048576 → EndsAt seen (area_of slot) end → HasParts seen slot start (set two (area_of slot + end) 0)
  parts_closed end within ends =
      let three = set two (area_of slot + end) 0 in
      let torn : IsTorn (area_of slot + end) 1 two three = set_torn two (area_of slot + end) 0 in
      let long = room_two in
      let zero : get_or three (area_of slot + end) 0 ≡ 0 = get_or-set_same two (area_of slot + end) 0 0 (omega (arith, long)) in
      let same : SameBytes two (area_of slot) seen (area_of slot) 1048576 = equal_same two (area_of slot) seen (area_of slot) 1048576 (omega (arith, long)) (omega arith) put_two.1 in
      record {
        end = Some end;
        image_is = bytes_at_elsewhere (area_of slot + end) 1 two three torn (image_of slot) 1048576 (inl (omega arith)) ∙ image_put;
        area_is = (
          within,
          ends,
          bytes_at_elsewhere (area_of slot + end) 1 two three torn (area_of slot) end (inl (omega arith)) ∙ same_bytes_at (same_part same 0 end (area_of slot) (area_of slot) (omega arith) (omega arith) (omega arith)),
          λ is_open. absurd (omega (arith, zero, is_open)),
        );
        elsewhere = torn_again (image_of slot) 2097152 start two three torn_two (torn_wider (image_of slot) 2097152 (area_of slot + end) 1 two three (omega arith) (omega arith) torn);
      }

-- The same, where the code reads: with offsets of its own names, and the disk as it was at each read.
pub parts_read : (seen seen' start one two : List ℕ) (slot image area : ℕ) → slot < 2 → length seen ≡ 4202496 → length start ≡ 4202496 → seen' ≡ seen → image ≡ image_of slot → area ≡ area_of slot → one ≡ after_write start image (bytes_at seen image (area - image))
    → two ≡ after_write one area (bytes_at seen' area 1048576) → HasParts seen slot start two × ((end : ℕ) → end < 1048576 → EndsAt seen area end → HasParts seen slot start (set two (area + end) 0))
parts_read seen seen' start one two slot image area is_slot whole room same at_image at_area first second =
    let there = put_as seen seen start one image (image_of slot) (area - image) 1048576 refl at_image (omega arith) first in
    let behind = put_as seen' seen one two area (area_of slot) 1048576 1048576 same at_area refl second in (
      parts_whole seen start one two slot is_slot whole room there behind,
      λ end within ends.
          subst (λ (k : ℕ). HasParts seen slot start (set two (k + end) 0)) (sym at_area)
          (parts_closed seen start one two slot is_slot whole room there behind end within (subst (λ (k : ℕ). EndsAt seen k end) at_area ends)),
    )

-- the header after them
module _ (seen start parts copy fields : List ℕ) (slot : ℕ) (has : HasParts seen slot start parts) (torn : IsTorn (header_of slot) 4096 parts copy) where
  area_stays : (end : Option ℕ) → IsAreaCopied seen parts (area_of slot) end → IsAreaCopied seen copy (area_of slot) end
  area_stays None is = bytes_at_elsewhere (header_of slot) 4096 parts copy torn (area_of slot) 1048576 (inr (omega arith)) ∙ is
  area_stays (Some end) is = (
    is.0,
    is.1,
    bytes_at_elsewhere (header_of slot) 4096 parts copy torn (area_of slot) end (inr (omega arith)) ∙ is.2,
    λ is_open. is.3 (sym (torn.above (area_of slot + end) (omega arith)) ∙ is_open),
  )

  pub slot_copied : bytes_at copy (header_of slot) 20 ≡ fields → IsGateOpen copy (gate_of slot) → IsSlotCopy seen slot fields start copy
  slot_copied fields_are is_open =
      record {
        end = has.end;
        fields_are = fields_are;
        is_open = is_open;
        image_is = bytes_at_elsewhere (header_of slot) 4096 parts copy torn (image_of slot) 1048576 (inr (omega arith)) ∙ has.image_is;
        area_is = area_stays has.end has.area_is;
        elsewhere = torn_again (header_of slot) 2101248 start parts copy (torn_wider (header_of slot) 2101248 (image_of slot) 2097152 start parts (omega arith) (omega arith) has.elsewhere)
            (torn_wider (header_of slot) 2101248 (header_of slot) 4096 parts copy (omega arith) (omega arith) torn);
      }

-- The same, where the code writes: the fields to an offset of its own name, and then the gate before the image.
pub header_put : (seen start parts put fields : List ℕ) (slot at image : ℕ) → slot < 2 → length parts ≡ 4202496 → length fields ≡ 20 → at ≡ header_of slot → image ≡ image_of slot → put ≡ after_write parts at fields → HasParts seen slot start parts
    → IsSlotCopy seen slot fields start (set put (image - 1) 1)
header_put seen start parts put fields slot at image is_slot room long at_is image_is is has =
    let gate = gate_of slot in
    let copy = set put gate 1 in
    let there : image - 1 ≡ gate = omega (arith, image_is) in
    let written : put ≡ after_write parts (header_of slot) fields = subst (λ (k : ℕ). put ≡ after_write parts k fields) at_is is in
    let fits : header_of slot + length fields ≤ length parts = omega (arith, room, long, is_slot) in
    let torn : IsTorn (header_of slot) 20 parts put =
    subst (λ (n : ℕ). IsTorn (header_of slot) n parts put) long (subst (λ (l : List ℕ). IsTorn (header_of slot) (length fields) parts l) (sym written) (IsTorn-after_write parts (header_of slot) fields fits)) in
    let whole = torn.whole in
    let fields_are : bytes_at put (header_of slot) 20 ≡ fields =
    subst (λ (n : ℕ). bytes_at put (header_of slot) n ≡ fields) long (subst (λ (l : List ℕ). bytes_at l (header_of slot) (length fields) ≡ fields) (sym written) (bytes_at-after_write parts (header_of slot) fields fits)) in
    subst (λ (k : ℕ). IsSlotCopy seen slot fields start (set put k 1)) (sym there)
    (slot_copied seen start parts copy fields slot has
    (torn_again (header_of slot) 4096 parts put copy (torn_wider (header_of slot) 4096 (header_of slot) 20 parts put (omega arith) (omega arith) torn)
    (torn_wider (header_of slot) 4096 gate 1 put copy (omega arith) (omega arith) (set_torn put gate 1)))
    (bytes_at_elsewhere gate 1 put copy (set_torn put gate 1) (header_of slot) 20 (inl (omega arith)) ∙ fields_are)
    (get_or-set_same put gate 1 0 (omega (arith, whole, room, is_slot))))
