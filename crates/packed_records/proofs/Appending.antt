-- One more record after packed ones, and how many they are.
use Rattle.std.proofs.Common.{◌≡◌, ◌≤◌, ℕ, ◌+◌, List, [], ◌∷◌, ◌++◌, length, take, drop, refl, ap}
use Rattle.std.proofs.Common.{◌∙◌, arith}
use Rattle.std.proofs.lemmas.List.{take-append-le, drop-append-le, length-drop, take_all}
use Rattle.cdr_record.specs.declared.record.LogRecord.{LogRecord}
use Rattle.packed_records.specs.declared.packed.Head.{Head}
use Rattle.packed_records.specs.Packing.{whole, unpacked, total}

pub total-more : (heads : List Head) (h : Head) → total (heads ++ h ∷ []) ≡ total heads + h.length
total-more [] h = omega arith
total-more (g ∷ heads) h = let more = total-more heads h in omega (arith, more)

pub unpacked-length : (heads : List Head) (messages : List ℕ)
    → length (unpacked heads messages) ≡ length heads
unpacked-length [] messages = refl
unpacked-length (h ∷ heads) messages = let more = unpacked-length heads (drop h.length messages) in
    omega (arith, more)

-- one record is its head's, if nothing stands before its message
first-more : (h : Head) (messages text : List ℕ) → 0 ≡ length messages → h.length ≡ length text
    → unpacked (h ∷ []) (messages ++ text) ≡ whole h text ∷ []
first-more h [] text none is = ap (λ (message : List ℕ). whole h message ∷ [])
    (take_all h.length text (omega (arith, is)))
first-more h (m ∷ messages) text none is = absurd (omega (arith, none))

pub unpacked-more : (heads : List Head) (h : Head) (messages text : List ℕ)
    → total heads ≡ length messages → h.length ≡ length text →
    unpacked (heads ++ h ∷ []) (messages ++ text) ≡ unpacked heads messages ++ whole h text ∷ []
unpacked-more [] h messages text sum is = first-more h messages text sum is
unpacked-more (g ∷ heads) h messages text sum is =
    let within : g.length ≤ length messages = omega (arith, sum) in
    let message : take g.length (messages ++ text) ≡ take g.length messages =
    take-append-le g.length messages text within in
    let rest : drop g.length (messages ++ text) ≡ drop g.length messages ++ text =
    drop-append-le g.length messages text within in
    let left : total heads ≡ length (drop g.length messages) =
    omega (arith, sum, length-drop g.length messages) in
    ap (λ (t : List ℕ). whole g t ∷ unpacked (heads ++ h ∷ []) (drop g.length (messages ++ text)))
    message
    ∙ ap (λ (t : List ℕ). whole g (take g.length messages) ∷ unpacked (heads ++ h ∷ []) t) rest
    ∙ ap (λ (rs : List LogRecord). whole g (take g.length messages) ∷ rs)
    (unpacked-more heads h (drop g.length messages) text left is)
