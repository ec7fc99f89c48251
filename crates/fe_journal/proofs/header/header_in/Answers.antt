use Rattle.std.proofs.Common.{◌≡◌, ℕ, ◌-◌, List, length, take, drop, sym, ◌∙◌, ap}
use Rattle.std.proofs.lemmas.List.{take_rest}
use Rattle.byteorder.specs.Endian.{big_number}
use Rattle.fe_journal.proofs.Openings.{number_read}
use Rattle.fe_journal.proofs.header.header_in.Goals as goal

pub returns : goal.returns
returns c =
    let bytes = c.args.bytes.now in
    let magic : c.read_u64.result ≡ big_number 8 (drop 0 bytes) = c.read_u64.ensures in
    let generation : c.read_u64-2.result ≡ big_number 8 (take (length bytes - 8) (drop 8 bytes)) = c.read_u64-2.ensures in
    let image_length : c.read_u32.result ≡ big_number 4 (take (length bytes - 16) (drop 16 bytes)) = c.read_u32.ensures in
    record {
      is_open = c.if-bytes-ne1.false;
      magic = number_read bytes 0 8 ∙ sym magic ∙ c.in_ok-format.ensures;
      generation_is = number_read bytes 8 8 ∙ sym (generation ∙ ap (λ (l : List ℕ). big_number 8 l) (take_rest bytes 8));
      length_is = number_read bytes 16 4 ∙ sym (image_length ∙ ap (λ (l : List ℕ). big_number 4 l) (take_rest bytes 16));
    }
