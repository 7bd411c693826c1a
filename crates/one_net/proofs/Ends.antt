-- What the reads of the one end do to what it keeps.
use Rattle.std.proofs.Common.{ℕ, zero, suc, ◌≡◌, ◌-◌, ◌≤◌, Bool, true, false, List, [], ◌∷◌, ◌++◌}
use Rattle.std.proofs.Common.{length, take, get_or, Option, Some, None, refl, ap, sym, ◌∙◌, subst}
use Rattle.std.proofs.Common.{arith}
use Rattle.std.proofs.lemmas.List.{length-append, append-nil, append_assoc, take_at, take_all}
use Rattle.ev_base.specs.Counts.{Rose}
use Rattle.ev_base.specs.Bytes.{ReaderBytes, MovesOn}
use Rattle.one_net.specs.OneEnd.{last_bytes, passed_on, given_by}
use Rattle.bounded_input.specs.Input.{FaultsSince}
use Rattle.one_net.specs.OneKeeps.{IsCountOf}

-- the source's count of faults rose once more
rose_again : (start old new : ℕ) → Rose start old → Rose old new → Rose start new
rose_again start old new before now = omega arith

pub faults_rose : (failed : Bool) (start old new : ℕ) → FaultsSince failed start old → Rose old new
    → FaultsSince true start new
faults_rose true start old new before now = rose_again start old new before now
faults_rose false start old new before now = subst (λ n. Rose n new) before now

-- the bytes that were given, if one byte more was read that is kept
same_given : (count : ℕ) (given kept : List ℕ) → length kept ≡ 1
    → passed_on 1 count (given ++ kept) ≡ passed_on 0 count given
same_given count given kept one =
    let long : length given ≡ length (given ++ kept) - 1 =
    sym (ap (λ n. n - 1) (length-append given kept) ∙ omega arith) in
    ap (last_bytes count) (take_at given kept (length (given ++ kept) - 1) long
    ∙ sym (take_all (length given - 0) given (omega arith)))

pub keeps_count : (count : ℕ) (extra kept : List ℕ) (old new : Option ReaderBytes) → extra ≡ []
    → length kept ≡ 1 → MovesOn old kept new
    → IsCountOf (given_by (length extra) count old) old count
    → IsCountOf (given_by 1 count new) new count
keeps_count count extra kept None None none one moves counts = tt
keeps_count count extra kept None (Some new) none one moves counts = absurd moves
keeps_count count extra kept (Some old) None none one moves counts = absurd moves
keeps_count count extra kept (Some old) (Some new) none one moves counts =
    ap (λ given. length (passed_on 1 count given)) moves.1
    ∙ ap length (same_given count old.given kept one)
    ∙ subst (λ e. length (passed_on (length e) count old.given) ≡ count) none counts

pub keeps_bytes : (count : ℕ) (extra kept : List ℕ) (start old new : Option ReaderBytes)
    → extra ≡ [] → length kept ≡ 1
    → MovesOn start (given_by (length extra) count old ++ extra) old → MovesOn old kept new
    → MovesOn start (given_by 1 count new ++ kept) new
keeps_bytes count extra kept None None None none one before moves = tt
keeps_bytes count extra kept None None (Some new) none one before moves = absurd moves
keeps_bytes count extra kept None (Some old) new none one before moves = absurd before
keeps_bytes count extra kept (Some start) None new none one before moves = absurd before
keeps_bytes count extra kept (Some start) (Some old) None none one before moves = absurd moves
keeps_bytes count extra kept (Some start) (Some old) (Some new) none one before moves =
    let given = passed_on 0 count old.given in
    let same : given ≡ passed_on 1 count new.given =
    sym (ap (passed_on 1 count) moves.1 ∙ same_given count old.given kept one) in
    let moved : MovesOn (Some start) (given ++ []) (Some old) =
    subst (λ e. MovesOn (Some start) (passed_on (length e) count old.given ++ e) (Some old))
    none before in (
      moved.0 ∙ ap (λ ys. ys ++ old.left) (append-nil given) ∙ ap (λ ys. given ++ ys) moves.0
          ∙ sym (append_assoc given kept new.left) ∙ ap (λ ys. (ys ++ kept) ++ new.left) same,
      moves.1 ∙ ap (λ ys. ys ++ kept) (moved.1 ∙ ap (λ ys. start.given ++ ys) (append-nil given))
          ∙ append_assoc start.given given kept ∙ ap (λ ys. start.given ++ (ys ++ kept)) same,
    )

-- a buffer of one byte, of which a byte was given
pub only_byte : (buffer : List ℕ) (n : ℕ) → length buffer ≡ 1 → 1 ≤ n → n ≤ length buffer
    → take n buffer ≡ get_or buffer 0 0 ∷ []
only_byte [] n one some within = absurd (omega arith)
only_byte (byte ∷ (other ∷ buffer)) n one some within = absurd (omega arith)
only_byte (byte ∷ []) zero one some within = absurd (omega arith)
only_byte (byte ∷ []) (suc zero) one some within = refl
only_byte (byte ∷ []) (suc (suc n)) one some within = absurd (omega arith)
