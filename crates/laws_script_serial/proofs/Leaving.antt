-- What handlers leave at their closing, and the turns before it, are fixed by what came before.
use Rattle.std.proofs.Common.{◌≡◌, ◌≢◌, ◌∙◌, ℕ, Bool, true, false, cond, List, [], ◌∷◌, ◌++◌}
use Rattle.std.proofs.Common.{Option, Some, None, refl, sym, subst, ap}
use Rattle.std.proofs.lemmas.Bool.{both_ways}
use Rattle.laws_script_runs.specs.ev_types.specs.declared.upcall.Why.{Why}
use Rattle.laws_script_runs.specs.ev_types.specs.declared.upcall.Why.TheVariants.{Own}
use Rattle.laws_script_runs.specs.ev_types.specs.declared.upcall.Why.TheVariants.{
  Removed as ByRemoval,
}
use Rattle.laws_script_runs.specs.ev_types.specs.declared.upcall.Why.TheVariants.{
  Refused as ByRefusal,
}
use Rattle.laws_script_runs.specs.log_lines.specs.declared.end_kind.EndKind.{EndKind}
use Rattle.laws_script_runs.specs.log_lines.specs.declared.end_kind.EndKind.TheVariants as end
use Rattle.laws_script_runs.specs.reactor_journal.specs.Event.{Item, Origin}
use Rattle.laws_script_runs.specs.acceptor.specs.Accepting as accepting
use Rattle.laws_script_runs.specs.log_handler.specs.declared.note.ServerNote.{ServerNote}
use Rattle.laws_script_runs.specs.log_handler.specs.declared.note.ServerNote.TheVariants as note
use Rattle.laws_script_runs.specs.log_handler.specs.Connection as connection
use Rattle.laws_script_runs.specs.log_handler.specs.Connections.{IsClosing}
use Rattle.laws_script_runs.specs.event_script.specs.Script.{ScriptStep}
use Rattle.laws_script_runs.specs.event_script.specs.Stories.{story, offers}
use Rattle.laws_script_runs.specs.laws_script_turns.specs.Laws.{untold, unoffered}
use Rattle.laws_script_runs.specs.Connections.{SaysLast, LeavesOffered, TalksThrough, lacks_memory}
use Rattle.laws_script_serial.proofs.Courses.{same_course, next_turn, next_accept, Tells, Offers}

-- ---- words

lacks : (c : ℕ) (word : EndKind) (said : ServerNote) → said ≡ note.Finished c word
    → lacks_memory said ≡ false → word ≢ end.NoMemory
lacks c word said is h = λ e. both_ways (lacks_memory said) h
    (ap lacks_memory (is ∙ ap (note.Finished c) e))

kept_memory : (own : Bool) (kept : Option EndKind) (word : EndKind)
    → IsClosing (cond own Own ByRemoval) kept word → word ≢ end.NoMemory → kept ≢ Some end.NoMemory
kept_memory true kept word closing h = λ e. h (word_of word (sym closing ∙ e))
  where
    word_of : (word : EndKind) → Some word ≡ Some end.NoMemory → word ≡ end.NoMemory
    word_of word q = cc
kept_memory false kept word closing h =
    λ e. h (subst (λ (k : Option EndKind). IsClosing ByRemoval k word) e closing)

one_word : (reason : Why) (kept : Option EndKind) (a b : EndKind) → IsClosing reason kept a
    → IsClosing reason kept b → a ≡ b
one_word Own kept a b x y = same (sym x ∙ y)
  where
    same : Some a ≡ Some b → a ≡ b
    same q = cc
one_word ByRemoval None a b x y = x ∙ sym y
one_word ByRemoval (Some end.NoMemory) a b x y = x ∙ sym y
one_word ByRemoval (Some _) a b x y = x ∙ sym y
one_word ByRefusal kept a b x y = x ∙ sym y

-- ---- what is left

module _ (steps : List ScriptStep) (idle : Option ℕ) where
  begins : (moment c : ℕ) → Tells (connection.at_start moment (Some (untold (story c steps))))
  begins moment c = record { telling = untold (story c steps); is = refl }

  begins_offering : Offers (accepting.at_start (Some (unoffered (offers steps))))
  begins_offering = record { offering = unoffered (offers steps); is = refl }

  -- the note of a closing
  same_talk : (c moment : ℕ) (had : List (Item ServerNote)) (own : Bool) (a b : ServerNote)
      → lacks_memory a ≡ false → lacks_memory b ≡ false
      → TalksThrough steps idle c moment had (cond own Own ByRemoval) a
      → TalksThrough steps idle c moment had (cond own Own ByRemoval) b → a ≡ b
  same_talk c moment had own a b ma mb x y =
      let same : x.now ≡ y.now = same_course c idle _ x.now y.now had (begins moment c)
      (kept_memory own x.now.kept x.word x.closing (lacks c x.word a x.notes ma))
      (kept_memory own y.now.kept y.word y.closing (lacks c y.word b y.notes mb)) x.course y.course
      in
      x.notes ∙ ap (note.Finished c) (one_word _ x.now.kept x.word y.word x.closing
      (subst (λ (p : connection.Progress). IsClosing (cond own Own ByRemoval) p.kept y.word)
      (sym same) y.closing)) ∙ sym y.notes

  pub same_closing : (origin : Option (Origin ServerNote)) (had : List (Item ServerNote))
      (own : Bool) (a b : ServerNote) → lacks_memory a ≡ false → lacks_memory b ≡ false
      → SaysLast steps idle origin had (cond own Own ByRemoval) a
      → SaysLast steps idle origin had (cond own Own ByRemoval) b → a ≡ b
  same_closing None had own a b ma mb x y = x.notes ∙ sym y.notes
  same_closing (Some o) had own a b ma mb x y = by_note o.note x y
    where
      by_note : (n : ServerNote) → LeavesOffered steps idle n o.moment had (cond own Own ByRemoval)
          a → LeavesOffered steps idle n o.moment had (cond own Own ByRemoval) b → a ≡ b
      by_note (note.Accepted c) x y = same_talk c o.moment had own a b ma mb x y
      by_note note.NoneWaiting x y = absurd x
      by_note note.ListenerFailed x y = absurd x
      by_note note.ListenerShut x y = absurd x
      by_note (note.Piece conn took records) x y = absurd x
      by_note (note.Finished conn end) x y = absurd x

  -- the note of a handler that was refused
  pub same_refusal : (origin : Option (Origin ServerNote)) (a b : ServerNote)
      → SaysLast steps idle origin [] ByRefusal a → SaysLast steps idle origin [] ByRefusal b
      → a ≡ b
  same_refusal None a b x y = x.notes ∙ sym y.notes
  same_refusal (Some o) a b x y = by_note o.note x y
    where
      by_note : (n : ServerNote) → LeavesOffered steps idle n o.moment [] ByRefusal a
          → LeavesOffered steps idle n o.moment [] ByRefusal b → a ≡ b
      by_note (note.Accepted c) x y = x.notes ∙ ap (note.Finished c) (x.closing ∙ sym y.closing)
          ∙ sym y.notes
      by_note note.NoneWaiting x y = absurd x
      by_note note.ListenerFailed x y = absurd x
      by_note note.ListenerShut x y = absurd x
      by_note (note.Piece conn took records) x y = absurd x
      by_note (note.Finished conn end) x y = absurd x

  -- ---- a turn

  same_next : (origin : Option (Origin ServerNote)) (had : List (Item ServerNote))
      (a b : Item ServerNote) (more other : List (Item ServerNote)) (own own' : Bool)
      (said said' : ServerNote)
      → lacks_memory said ≡ false → lacks_memory said' ≡ false → a.upcall ≡ b.upcall
      → a.moment ≡ b.moment
      → SaysLast steps idle origin ((had ++ a ∷ []) ++ more) (cond own Own ByRemoval) said
      → SaysLast steps idle origin ((had ++ b ∷ []) ++ other) (cond own' Own ByRemoval) said'
      → (a.answer ≡ b.answer) × (a.note ≡ b.note)
  same_next None had a b more other own own' said said' ms ms' up moment x y =
      next_accept _ x.now y.now had a b more other begins_offering up x.course y.course
  same_next (Some o) had a b more other own own' said said' ms ms' up moment x y =
      by_note o.note x y
    where
      by_note : (n : ServerNote) → LeavesOffered steps idle n o.moment ((had ++ a ∷ []) ++ more)
          (cond own Own ByRemoval) said → LeavesOffered steps idle n o.moment
          ((had ++ b ∷ []) ++ other) (cond own' Own ByRemoval) said'
          → (a.answer ≡ b.answer) × (a.note ≡ b.note)
      by_note (note.Accepted c) x y =
          next_turn c idle _ x.now y.now had a b more other (begins o.moment c)
          (kept_memory own x.now.kept x.word x.closing (lacks c x.word said x.notes ms))
          (kept_memory own' y.now.kept y.word y.closing (lacks c y.word said' y.notes ms')) up
          moment x.course y.course
      by_note note.NoneWaiting x y = absurd x
      by_note note.ListenerFailed x y = absurd x
      by_note note.ListenerShut x y = absurd x
      by_note (note.Piece conn took records) x y = absurd x
      by_note (note.Finished conn end) x y = absurd x

  -- all turns that a handler has in a whole journal, and what it leaves
  pub record HasAll (origin : Option (Origin ServerNote)) (items : List (Item ServerNote)) : Type 0
    where
      pub own : Bool
      pub said : ServerNote
      pub memory : lacks_memory said ≡ false
      pub leaves : SaysLast steps idle origin items (cond own Own ByRemoval) said

  pub one_turn : (origin : Option (Origin ServerNote)) (had whole whole' : List (Item ServerNote))
      (a b : Item ServerNote) (more other : List (Item ServerNote))
      → whole ≡ (had ++ a ∷ []) ++ more → whole' ≡ (had ++ b ∷ []) ++ other → a.upcall ≡ b.upcall
      → a.moment ≡ b.moment → HasAll origin whole → HasAll origin whole' → (a.answer ≡ b.answer)
      × (a.note ≡ b.note)
  one_turn origin had whole whole' a b more other is is' up moment x y =
      same_next origin had a b more other x.own y.own x.said y.said x.memory y.memory up moment
      (subst (λ (items : List (Item ServerNote)).
      SaysLast steps idle origin items (cond x.own Own ByRemoval) x.said) is x.leaves)
      (subst (λ (items : List (Item ServerNote)).
      SaysLast steps idle origin items (cond y.own Own ByRemoval) y.said) is' y.leaves)
