-- How many turns of a connection ask for one more: one for each read that gives bytes.
use Rattle.std.proofs.Common.{ℕ, zero, suc, ◌≡◌, ◌∙◌, ◌+◌, ◌-◌, ◌/◌, ◌≤◌, ◌<◌, ◌==◌, ⊎_elim, cond}
use Rattle.std.proofs.Common.{Bool, true, false, List, [], ◌∷◌, ◌++◌, length, drop, take, min}
use Rattle.std.proofs.Common.{Option, Some, None, refl, sym, ap, subst, arith}
use Rattle.std.specs.Prelude.{nat_lt}
use Rattle.std.proofs.lemmas.Bool.{false≢true, ltb-true, ne_eqb, eq-eqb, cases_eq}
use Rattle.std.proofs.lemmas.List.{length-take}
use Rattle.laws_one_worker.specs.ev_types.specs.declared.upcall.Answer.{Answer}
use Rattle.laws_one_worker.specs.ev_types.specs.declared.upcall.Answer.TheVariants.{Keep}
use Rattle.laws_one_worker.specs.ev_types.specs.declared.upcall.Answer.TheVariants.{Again}
use Rattle.laws_one_worker.specs.ev_types.specs.declared.upcall.Answer.TheVariants.{Close}
use Rattle.laws_one_worker.specs.ev_types.specs.declared.upcall.Upcall.{Upcall}
use Rattle.laws_one_worker.specs.ev_types.specs.declared.upcall.Upcall.TheVariants.{Input}
use Rattle.laws_one_worker.specs.ev_types.specs.declared.upcall.Upcall.TheVariants.{Output}
use Rattle.laws_one_worker.specs.ev_types.specs.declared.upcall.Upcall.TheVariants.{Except}
use Rattle.laws_one_worker.specs.ev_types.specs.declared.upcall.Upcall.TheVariants.{Timeout}
use Rattle.laws_one_worker.specs.ev_types.specs.declared.upcall.Upcall.TheVariants.{Notice}
use Rattle.laws_one_worker.specs.ev_base.specs.Story.{Part, Piece, Pausing}
use Rattle.laws_one_worker.specs.ev_base.specs.Story.{Ending, Failing, Telling}
use Rattle.laws_one_worker.specs.ev_base.specs.Story.{TellsNext, read_answer}
use Rattle.laws_one_worker.specs.ev_base.specs.Story.{read_bytes, told_after}
use Rattle.laws_one_worker.specs.ev_base.specs.declared.source.Got.{Got}
use Rattle.laws_one_worker.specs.ev_base.specs.declared.source.Got.TheVariants
    as got
use Rattle.laws_one_worker.specs.log_lines.specs.declared.end_kind.EndKind.{EndKind}
use Rattle.laws_one_worker.specs.reactor_journal.specs.Event.{Item}
use Rattle.laws_one_worker.specs.reactor_journal.specs.Past.{count}
use Rattle.laws_one_worker.specs.log_handler.specs.declared.note.ServerNote.{ServerNote}
use Rattle.laws_one_worker.specs.log_handler.specs.Connection.{Progress, Course, ServesUpcall}
use Rattle.laws_one_worker.specs.log_handler.specs.Connection.{ServesRead, ReadsOnce}
use Rattle.laws_one_worker.specs.log_handler.specs.Connection.{MakesNoRead, AnswersTimeout}
use Rattle.laws_one_worker.specs.log_handler.specs.Connection.{piece_room, is_idle, at_start}
use Rattle.laws_one_worker.specs.event_script.specs.Script.{ScriptStep, Opens, Brings, Shuts, Fails}
use Rattle.laws_one_worker.specs.event_script.specs.Script.{ListenerFails}
use Rattle.laws_one_worker.specs.event_script.specs.Stories.{story, parts_of}
use Rattle.laws_one_worker.specs.laws_script_turns.specs.Laws.{untold}

-- the turn asks for one more
abbrev pub is_more : Answer → Bool
is_more Again = true
is_more _ = false

abbrev pub asks_more : Item ServerNote → Bool
asks_more item = is_more item.answer

-- how many reads these parts take at most that give bytes, if so many bytes of the first were
-- given
abbrev pub reads_of : ℕ → List Part → ℕ
reads_of at [] = 0
reads_of at (Piece bytes ∷ left) = (length bytes - at + 4095) / 4096 + reads_of 0 left
reads_of at (_ ∷ left) = reads_of 0 left

one_read : (n at : ℕ) → at + 4096 < n → (n - (at + 4096) + 4095) / 4096 + 1 ≤ (n - at + 4095) / 4096
one_read n at h = omega (arith, h)

last_read : (n at : ℕ) → at < n → 1 ≤ (n - at + 4095) / 4096
last_read n at h = omega (arith, h)

-- ---- one turn

abbrev gives_bytes : Got → Bool
gives_bytes (got.Bytes n) = true
gives_bytes _ = false

abbrev after : List Part → ℕ → List ℕ → List Part → Bool → Telling
after given at whole left b = cond b
    (record { given = given; at = at + 4096; left = Piece whole ∷ left })
    (record { given = given ++ Piece whole ∷ []; at = 0; left = left })

-- what is left to read after a read
read_left : (given : List Part) (at : ℕ) (left : List Part) (bytes : List ℕ)
    → bytes ≡ read_bytes piece_room at left
    → (gives_bytes (read_answer piece_room at left) ≡ true → 1 ≤ length bytes)
    → cond (gives_bytes (read_answer piece_room at left)) 1 0
    + reads_of (told_after piece_room given at left).at
    (told_after piece_room given at left).left ≤ reads_of at left
read_left given at [] bytes are some = omega arith
read_left given at (Piece whole ∷ left) bytes are some =
    by_room (nat_lt (at + 4096) (length whole)) refl
  where
    within : at < length whole
    within =
        let one = some refl in
        let many : length bytes ≡ length (take (min piece_room (length whole - at))
        (drop at whole)) = ap length are in
        let few = length-take (min piece_room (length whole - at)) (drop at whole) in
        omega (arith, one, many, few)

    by_room : (b : Bool) → nat_lt (at + 4096) (length whole) ≡ b
        → 1 + reads_of (after given at whole left b).at (after given at whole left b).left
        ≤ (length whole - at + 4095) / 4096 + reads_of 0 left
    by_room true is = let r = one_read (length whole) at (ltb-true (at + 4096) (length whole) is) in
        omega (arith, r)
    by_room false is = let r = last_read (length whole) at within in omega (arith, r)
read_left given at (Pausing ∷ left) bytes are some = omega arith
read_left given at (Ending ∷ left) bytes are some = omega arith
read_left given at (Failing ∷ left) bytes are some = omega arith

-- the parts that are left of a story that is told
abbrev pub left_to_read : Option Telling → ℕ
left_to_read None = 0
left_to_read (Some telling) = reads_of telling.at telling.left

abbrev IsTold : Option Telling → Type 0
IsTold None = ⊥
IsTold (Some telling) = Unit {0}

-- a turn spends a read if it asks for one more
record Spends (before : Progress) (item : Item ServerNote) (after : Progress) : Type 0 where
  told : IsTold after.telling
  less : cond (asks_more item) 1 0 + left_to_read after.telling ≤ left_to_read before.telling

tells_left : (old : Option Telling) (gave : Got) (bytes : List ℕ) (new : Option Telling)
    → IsTold old → TellsNext old piece_room gave bytes new
    → (gives_bytes gave ≡ true → 1 ≤ length bytes)
    → IsTold new × (cond (gives_bytes gave) 1 0 + left_to_read new ≤ left_to_read old)
tells_left None gave bytes new told t some = absurd told
tells_left (Some old) gave bytes None told t some = absurd t
tells_left (Some old) gave bytes (Some new) told t some =
    let some_there : gives_bytes (read_answer piece_room old.at old.left) ≡ true
    → 1 ≤ length bytes = λ g. some (ap gives_bytes t.0 ∙ g) in
    let less = read_left old.given old.at old.left bytes t.1 some_there in
    let gave_is : cond {A = ℕ} (gives_bytes gave) 1 0
    ≡ cond (gives_bytes (read_answer piece_room old.at old.left)) 1 0 =
    ap (λ (g : Got). cond {A = ℕ} (gives_bytes g) 1 0) t.0 in
    let new_is : reads_of new.at new.left
    ≡ reads_of (told_after piece_room old.given old.at old.left).at
    (told_after piece_room old.given old.at old.left).left =
    ap (λ (n : Telling). reads_of n.at n.left) t.2 in
    (tt, omega (arith, less, gave_is, new_is))

at_most_one : (b : Bool) → cond {A = ℕ} b 1 0 ≤ 1
at_most_one true = omega arith
at_most_one false = omega arith

not_more : (item : Item ServerNote) (answer : Answer) → item.answer ≡ answer
    → is_more answer ≡ false → cond {A = ℕ} (asks_more item) 1 0 ≡ 0
not_more item answer is none = ap (λ (a : Answer). cond {A = ℕ} (is_more a) 1 0) is
    ∙ ap (λ (b : Bool). cond {A = ℕ} b 1 0) none

-- what asks for more has bytes
more_or_bytes : (conn : ℕ) (before : Progress) (gave : Got) (bytes : List ℕ)
    (telling : Option Telling) (item : Item ServerNote) (after : Progress)
    → ServesRead conn before gave bytes telling item after
    → (cond {A = ℕ} (asks_more item) 1 0 ≤ cond {A = ℕ} (gives_bytes gave) 1 0)
    × (gives_bytes gave ≡ true → 1 ≤ length bytes)
more_or_bytes conn before (got.Bytes n) bytes telling item after h =
    (at_most_one (asks_more item), λ g. h.1.some)
more_or_bytes conn before got.Pause bytes telling item after h = let none =
    not_more item Keep h.answers refl in (omega (arith, none), λ g. absurd (false≢true g))
more_or_bytes conn before got.Over bytes telling item after h = let none =
    not_more item Close h.answers refl in (omega (arith, none), λ g. absurd (false≢true g))
more_or_bytes conn before got.Failed bytes telling item after h = let none =
    not_more item Close h.answers refl in (omega (arith, none), λ g. absurd (false≢true g))

reads : (conn : ℕ) (before : Progress) (item : Item ServerNote) (after : Progress)
    → IsTold before.telling → ReadsOnce conn before item after → Spends before item after
reads conn before item after told h =
    let m = more_or_bytes conn before h.gave h.bytes after.telling item after h.serves in
    let t = tells_left before.telling h.gave h.bytes after.telling told h.tells m.1 in
    let less : cond {A = ℕ} (gives_bytes h.gave) 1 0 + left_to_read after.telling
    ≤ left_to_read before.telling = t.1 in
    let few : cond {A = ℕ} (asks_more item) 1 0 ≤ cond {A = ℕ} (gives_bytes h.gave) 1 0 = m.0 in
    record { told = t.0; less = omega (arith, less, few) }

silent : (conn : ℕ) (before : Progress) (answer : Answer) (kept : Option EndKind)
    (item : Item ServerNote) (after : Progress) → IsTold before.telling → is_more answer ≡ false
    → MakesNoRead conn before answer kept item after → Spends before item after
silent conn before answer kept item after told none h =
    let same : after.telling ≡ before.telling = ap (λ (p : Progress). p.telling) h.leaves in
    let left : left_to_read after.telling ≡ left_to_read before.telling = ap left_to_read same in
    let zero_more = not_more item answer h.answers none in
    record { told = subst IsTold (sym same) told; less = omega (arith, left, zero_more) }

timeout : (quiet : Bool) (conn : ℕ) (before : Progress) (item : Item ServerNote) (after : Progress)
    → IsTold before.telling → AnswersTimeout quiet conn before item after → Spends before item after
timeout true conn before item after told h = silent conn before Close _ item after told refl h
timeout false conn before item after told h = silent conn before Keep _ item after told refl h

spends : (up : Upcall) (conn : ℕ) (idle : Option ℕ) (before : Progress) (item : Item ServerNote)
    (after : Progress) → IsTold before.telling → ServesUpcall up conn idle before item after
    → Spends before item after
spends Input conn idle before item after told h = reads conn before item after told h
spends (Timeout timer) conn idle before item after told h =
    timeout (is_idle idle before.last item.moment) conn before item after told h
spends Output conn idle before item after told h =
    silent conn before Keep None item after told refl h
spends Except conn idle before item after told h =
    silent conn before Keep None item after told refl h
spends (Notice kind) conn idle before item after told h =
    silent conn before Keep None item after told refl h

course_spends : (conn : ℕ) (idle : Option ℕ) (start p : Progress) (had : List (Item ServerNote))
    → IsTold start.telling → Course conn idle start had p
    → count asks_more had + left_to_read p.telling ≤ left_to_read start.telling
course_spends conn idle start p [] told course =
    let same : left_to_read p.telling ≡ left_to_read start.telling =
    ap (λ (q : Progress). left_to_read q.telling) course in omega (arith, same)
course_spends conn idle start p (item ∷ items) told course =
    let s = spends item.upcall conn idle start item course.0 told course.1.serves in
    let rest = course_spends conn idle course.0 p items s.told course.2 in
    let one = s.less in
    by_test (asks_more item) one rest
  where
    by_test : (b : Bool) → cond b 1 0 + left_to_read course.0.telling ≤ left_to_read start.telling
        → count asks_more items + left_to_read p.telling ≤ left_to_read course.0.telling
        → cond b (suc (count asks_more items)) (count asks_more items) + left_to_read p.telling
        ≤ left_to_read start.telling
    by_test true one rest = omega (arith, one, rest)
    by_test false one rest = omega (arith, one, rest)

-- ---- the reads of a script

-- how many reads a step's bytes take at most, and those of a connection's steps, and of all
abbrev pub reads_in : ScriptStep → ℕ
reads_in (Brings conn bytes) = (length bytes + 4095) / 4096
reads_in _ = 0

abbrev pub brings : ℕ → ScriptStep → Bool
brings c (Brings conn bytes) = conn == c
brings c _ = false

abbrev pub reads_on : ℕ → List ScriptStep → ℕ
reads_on c [] = 0
reads_on c (step ∷ steps) = cond (brings c step) (reads_in step) 0 + reads_on c steps

reads_parts : (c : ℕ) (step : ScriptStep) (rest : List Part)
    → reads_of 0 (parts_of c step ++ rest)
    ≡ cond (brings c step) (reads_in step) 0 + reads_of 0 rest
reads_parts c (Opens conn) rest = omega arith
reads_parts c (Brings conn bytes) rest = by_test (conn == c)
  where
    by_test : (b : Bool) → reads_of 0 (cond b (Piece bytes ∷ Pausing ∷ []) [] ++ rest)
        ≡ cond b ((length bytes + 4095) / 4096) 0 + reads_of 0 rest
    by_test true = omega arith
    by_test false = omega arith
reads_parts c (Shuts conn) rest = by_test (conn == c)
  where
    by_test : (b : Bool) → reads_of 0 (cond b (Ending ∷ []) [] ++ rest) ≡ 0 + reads_of 0 rest
    by_test true = omega arith
    by_test false = omega arith
reads_parts c (Fails conn) rest = by_test (conn == c)
  where
    by_test : (b : Bool) → reads_of 0 (cond b (Failing ∷ []) [] ++ rest) ≡ 0 + reads_of 0 rest
    by_test true = omega arith
    by_test false = omega arith
reads_parts c ListenerFails rest = omega arith

reads_story : (c : ℕ) (steps : List ScriptStep) → reads_of 0 (story c steps) ≡ reads_on c steps
reads_story c [] = refl
reads_story c (step ∷ steps) = reads_parts c step (story c steps)
    ∙ ap (λ (n : ℕ). cond (brings c step) (reads_in step) 0 + n) (reads_story c steps)

-- the turns over the story of a connection ask for one more at most so often
pub asks_few : (c : ℕ) (idle : Option ℕ) (moment : ℕ) (steps : List ScriptStep) (p : Progress)
    (had : List (Item ServerNote)) → Course c idle (at_start moment (Some (untold (story c steps))))
    had p → count asks_more had ≤ reads_on c steps
asks_few c idle moment steps p had course =
    let few = course_spends c idle (at_start moment (Some (untold (story c steps)))) p had tt course
    in
    let all = reads_story c steps in
    omega (arith, few, all)

-- ---- over all connections

abbrev pub sum_below : ℕ → (ℕ → ℕ) → ℕ
sum_below zero f = 0
sum_below (suc n) f = f n + sum_below n f

pub sum_less : (n : ℕ) (f g : ℕ → ℕ) → ((c : ℕ) → f c ≤ g c) → sum_below n f ≤ sum_below n g
sum_less zero f g h = omega arith
sum_less (suc n) f g h = let rest = sum_less n f g h in let one = h n in omega (arith, rest, one)

pub sum_both : (n : ℕ) (f g : ℕ → ℕ) → sum_below n (λ c. f c + g c) ≡ sum_below n f + sum_below n g
sum_both zero f g = refl
sum_both (suc n) f g = let rest = sum_both n f g in omega (arith, rest)

sum_zero : (n : ℕ) → sum_below n (λ c. 0) ≡ 0
sum_zero zero = refl
sum_zero (suc n) = let rest = sum_zero n in omega (arith, rest)

-- one of them alone has something
pub one_above : (n k w : ℕ) → n ≤ k → sum_below n (λ c. cond (k == c) w 0) ≡ 0
one_above zero k w l = refl
one_above (suc n) k w l =
    let rest = one_above n k w (omega arith) in
    let other : (k == n) ≡ false = ne_eqb k n (omega arith) in
    let none : cond (k == n) w 0 ≡ 0 = ap (λ (b : Bool). cond b w 0) other in
    omega (arith, rest, none)

pub one_below : (n k w : ℕ) → k < n → sum_below n (λ c. cond (k == c) w 0) ≡ w
one_below zero k w l = absurd (omega arith)
one_below (suc n) k w l = ⊎_elim (λ (e : k ≡ n). last e)
    (λ (d : k ≡ n → ⊥). before d (one_below n k w)) (cases_eq k n)
  where
    last : k ≡ n → sum_below (suc n) (λ c. cond (k == c) w 0) ≡ w
    last e =
        let rest = one_above n k w (omega arith) in
        let some : cond (k == n) w 0 ≡ w = ap (λ (b : Bool). cond b w 0) (eq-eqb k n e) in
        omega (arith, rest, some)

    before : (k ≡ n → ⊥) → (k < n → sum_below n (λ c. cond (k == c) w 0) ≡ w)
        → sum_below (suc n) (λ c. cond (k == c) w 0) ≡ w
    before d rest =
        let none : cond (k == n) w 0 ≡ 0 = ap (λ (b : Bool). cond b w 0) (ne_eqb k n d) in
        let some = rest (omega (arith, l, d)) in
        omega (arith, some, none)

one_at_most : (n k w : ℕ) → sum_below n (λ c. cond (k == c) w 0) ≤ w
one_at_most zero k w = omega arith
one_at_most (suc n) k w = ⊎_elim (λ (e : k ≡ n). last e)
    (λ (d : k ≡ n → ⊥). before d (one_at_most n k w)) (cases_eq k n)
  where
    last : k ≡ n → sum_below (suc n) (λ c. cond (k == c) w 0) ≤ w
    last e =
        let rest = one_above n k w (omega arith) in
        let some : cond (k == n) w 0 ≡ w = ap (λ (b : Bool). cond b w 0) (eq-eqb k n e) in
        omega (arith, rest, some)

    before : (k ≡ n → ⊥) → sum_below n (λ c. cond (k == c) w 0) ≤ w
        → sum_below (suc n) (λ c. cond (k == c) w 0) ≤ w
    before d rest =
        let none : cond (k == n) w 0 ≡ 0 = ap (λ (b : Bool). cond b w 0) (ne_eqb k n d) in
        omega (arith, rest, none)

abbrev pub all_reads : List ScriptStep → ℕ
all_reads [] = 0
all_reads (step ∷ steps) = reads_in step + all_reads steps

step_once : (n : ℕ) (step : ScriptStep)
    → sum_below n (λ c. cond (brings c step) (reads_in step) 0) ≤ reads_in step
step_once n (Brings conn bytes) = one_at_most n conn ((length bytes + 4095) / 4096)
step_once n (Opens conn) = let none = sum_zero n in omega (arith, none)
step_once n (Shuts conn) = let none = sum_zero n in omega (arith, none)
step_once n (Fails conn) = let none = sum_zero n in omega (arith, none)
step_once n ListenerFails = let none = sum_zero n in omega (arith, none)

pub reads_all : (n : ℕ) (steps : List ScriptStep)
    → sum_below n (λ c. reads_on c steps) ≤ all_reads steps
reads_all n [] = let none = sum_zero n in omega (arith, none)
reads_all n (step ∷ steps) =
    let rest = reads_all n steps in
    let one = step_once n step in
    let both = sum_both n (λ c. cond (brings c step) (reads_in step) 0) (λ c. reads_on c steps) in
    omega (arith, rest, one, both)
