-- What the decoder makes of the first frame, from its length and from its content.
use Rattle.std.proofs.Common.{◌≡◌, ℕ, ◌+◌, ◌-◌, List, take, drop, inr, Option, Result, Ok, Err, Some, ap, subst, sym, arith}
use Rattle.tao_wire.specs.declared.message.Message.{Message}
use Rattle.tao_wire.specs.declared.message.WireFault.{WireFault}
use Rattle.tao_wire.specs.declared.message.WireFault.TheVariants.{Long, Kind, Body, Memory}
use Rattle.tao_wire.specs.Frames.{length_field, first_content, HasWholeFrame}
use Rattle.tao_wire.specs.Reading.{Says, Length, Reads}
use Rattle.tao_wire.proofs.BodyLemmas.{AreBytes}
use Rattle.tao_wire.proofs.Frontier.{frame_back}

-- the content as the code cuts it out
content_cut : (limit len : ℕ) (bytes : List ℕ) → len ≡ length_field bytes → take (4 + len - 4) (drop 4 bytes) ≡ first_content bytes
content_cut limit len bytes e = let n : 4 + len - 4 ≡ length_field bytes = omega arith in ap (λ k. take k (drop 4 bytes)) n

reads_content : (limit : ℕ) (bytes : List ℕ) (answer : Result Message WireFault) → AreBytes bytes → HasWholeFrame limit bytes → Says (first_content bytes) answer
    → Reads limit bytes (elim answer as (λ _. Result (Option (Message × ℕ)) WireFault) [ Ok m ↦ Ok (Some (m, 4 + length_field bytes)) | Err fault ↦ Err fault ])
reads_content limit bytes (Ok m) small w h = (frame_back limit bytes m small w h, w.whole)
reads_content limit bytes (Err Long) small w h = absurd h
reads_content limit bytes (Err Kind) small w h = (w, h)
reads_content limit bytes (Err Body) small w h = inr (w, h.0, h.1)
reads_content limit bytes (Err Memory) small w h = (h.0, drop (4 + length_field bytes) bytes, frame_back limit bytes h.0 small w h.1)

pub reads_message : (limit len : ℕ) (bytes : List ℕ) (m : Message) → AreBytes bytes → Length limit bytes (Ok (Some len)) → Says (take (4 + len - 4) (drop 4 bytes)) (Ok m)
    → Reads limit bytes (Ok (Some (m, 4 + len)))
reads_message limit len bytes m small w h =
    let says = subst (λ (cut : List ℕ). Says cut (Ok m)) (content_cut limit len bytes w.1) h in
    subst (λ n. Reads limit bytes (Ok (Some (m, 4 + n)))) (sym w.1) (reads_content limit bytes (Ok m) small w.0 says)

pub reads_fault : (limit len : ℕ) (bytes : List ℕ) (fault : WireFault) → AreBytes bytes → Length limit bytes (Ok (Some len)) → Says (take (4 + len - 4) (drop 4 bytes)) (Err fault)
    → Reads limit bytes (Err fault)
reads_fault limit len bytes fault small w h =
    reads_content limit bytes (Err fault) small w.0 (subst (λ (cut : List ℕ). Says cut (Err fault)) (content_cut limit len bytes w.1) h)
