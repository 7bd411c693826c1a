-- A connection that was shut and does not fail, and whose bytes are records alone, has read all of
-- them when it was closed.
use Rattle.std.proofs.Common.{◌≡◌, ◌≢◌, ◌∙◌, ◌+◌, ◌⊎◌, inl, inr, ℕ, true, false, List, ◌++◌, Option}
use Rattle.std.proofs.Common.{Some, None, refl, sym, subst, ap}
use Rattle.std.specs.Prelude.{flat_map}
use Rattle.std.proofs.lemmas.Bool.{false≢true}
use Rattle.laws_script_complete.specs.ev_types.specs.declared.upcall.Why.{Why}
use Rattle.laws_script_complete.specs.ev_types.specs.declared.upcall.Why.TheVariants.{Own}
use Rattle.laws_script_complete.specs.ev_types.specs.declared.upcall.Why.TheVariants.{Removed}
use Rattle.laws_script_complete.specs.ev_types.specs.declared.upcall.Why.TheVariants.{Refused}
use Rattle.laws_script_complete.specs.ev_base.specs.Story.{Failing}
use Rattle.laws_script_complete.specs.cdr_record.specs.Decoding.{Clean}
use Rattle.laws_script_complete.specs.cdr_record.specs.Decoding.{Malformed}
use Rattle.laws_script_complete.specs.cdr_record.specs.Decoding.{Decoded}
use Rattle.laws_script_complete.specs.cdr_record.specs.Decoding.{decode}
use Rattle.laws_script_complete.specs.cdr_record.proofs.Runs.{bad_ends}
use Rattle.laws_script_complete.specs.log_lines.specs.declared.end_kind.EndKind.{EndKind}
use Rattle.laws_script_complete.specs.log_lines.specs.declared.end_kind.EndKind.TheVariants
    as end
use Rattle.laws_script_complete.specs.reactor_journal.specs.Event.{Item}
use Rattle.laws_script_complete.specs.log_handler.specs.declared.note.ServerNote.{ServerNote}
use Rattle.laws_script_complete.specs.log_handler.specs.Connection.{Progress}
use Rattle.laws_script_complete.specs.log_handler.specs.Connection.{Course}
use Rattle.laws_script_complete.specs.log_handler.specs.Connection.{at_start}
use Rattle.laws_script_complete.specs.log_handler.specs.Connections.{IsClosing}
use Rattle.laws_script_complete.specs.log_handler.specs.Laws.{HasRecords}
use Rattle.laws_script_complete.specs.log_handler.specs.Laws.{EndedSo}
use Rattle.laws_script_complete.specs.log_handler.specs.Laws.{WasIdle}
use Rattle.laws_script_complete.specs.log_handler.specs.Laws.{records_in}
use Rattle.laws_script_complete.specs.log_handler.specs.Laws.{took_last}
use Rattle.laws_script_complete.specs.log_handler.specs.Laws.{last_turn}
use Rattle.laws_script_complete.specs.log_handler.proofs.Accounts.{accounts}
use Rattle.laws_script_complete.specs.event_script.specs.Script.{ScriptStep}
use Rattle.laws_script_complete.specs.event_script.specs.Stories.{story}
use Rattle.laws_script_complete.specs.event_script.specs.Stories.{bytes_of}
use Rattle.laws_script_complete.specs.event_script.specs.Stories.{has_failed}
use Rattle.laws_script_complete.specs.laws_script_turns.specs.Laws.{ReadToEnd}
use Rattle.laws_script_complete.specs.laws_script_turns.specs.Laws.{is_orderly}
use Rattle.laws_script_complete.specs.laws_script_turns.specs.Laws.{steps_on}
use Rattle.laws_script_complete.specs.laws_script_turns.specs.Laws.{pauses_had}
use Rattle.laws_script_complete.specs.laws_script_turns.specs.Laws.{untold}
use Rattle.laws_script_complete.specs.laws_script_turns.proofs.Reading.{StopsAt}
use Rattle.laws_script_complete.specs.laws_script_turns.proofs.Reading.{TakesFront}
use Rattle.laws_script_complete.specs.laws_script_turns.proofs.Reading.{HasRead}
use Rattle.laws_script_complete.specs.laws_script_turns.proofs.Reading.{has_read}
use Rattle.laws_script_complete.specs.laws_script_turns.proofs.Stories.{story_bytes}
use Rattle.laws_script_complete.specs.laws_script_turns.proofs.Stories.{failed_there}
use Rattle.laws_script_complete.specs.laws_script_turns.proofs.Saying.{takes_all_bytes}

-- ---- all together

-- all bytes of the connection were taken, and the records of its notes are theirs
pub record ReadsAll (c : ℕ) (steps : List ScriptStep) (had : List (Item ServerNote))
    (p : Progress) : Type 0 where
  pub taken : p.taken ≡ bytes_of c steps
  pub records : flat_map records_in had ≡ (decode (bytes_of c steps)).records

own_or_not : (reason : Why) → (reason ≡ Own → ⊥) ⊎ (reason ≡ Own)
own_or_not Own = inr refl
own_or_not Removed = inl (λ (e : ◌≡◌ {A = Why} Removed Own). cc e)
own_or_not Refused = inl (λ (e : ◌≡◌ {A = Why} Refused Own). cc e)

module _ (c : ℕ) (steps : List ScriptStep) (moment : ℕ) (had : List (Item ServerNote))
    (p : Progress) (orderly : is_orderly c steps ≡ true)
    (clean : (decode (bytes_of c steps)).stop ≡ Clean)
    (sound : has_failed c steps ≡ false)
    (course : Course c None (at_start moment (Some (untold (story c steps)))) had p) where
  to_end : ReadToEnd p.kept (pauses_had had) (steps_on c steps) → p.taken ≡ bytes_of c steps
  to_end reads = takes_all_bytes c None steps moment had p orderly course reads

  with_records : (kept : Option EndKind) (count : ℕ)
      → HasRecords (flat_map records_in had) count p.taken kept → kept ≢ Some end.NoMemory
      → p.taken ≡ bytes_of c steps → ReadsAll c steps had p
  with_records None count records memory taken =
      record { taken = taken; records = records ∙ ap (λ (t : List ℕ). (decode t).records) taken }
  with_records (Some end.NoMemory) count records memory taken = absurd (memory refl)
  with_records (Some end.End) count records memory taken =
      record { taken = taken; records = records ∙ ap (λ (t : List ℕ). (decode t).records) taken }
  with_records (Some (end.Partial n)) count records memory taken =
      record { taken = taken; records = records ∙ ap (λ (t : List ℕ). (decode t).records) taken }
  with_records (Some (end.Malformed at)) count records memory taken =
      record { taken = taken; records = records ∙ ap (λ (t : List ℕ). (decode t).records) taken }
  with_records (Some end.Failed) count records memory taken =
      record { taken = taken; records = records ∙ ap (λ (t : List ℕ). (decode t).records) taken }
  with_records (Some end.Idle) count records memory taken =
      record { taken = taken; records = records ∙ ap (λ (t : List ℕ). (decode t).records) taken }
  with_records (Some end.Stopped) count records memory taken =
      record { taken = taken; records = records ∙ ap (λ (t : List ℕ). (decode t).records) taken }
  with_records (Some end.Refused) count records memory taken =
      record { taken = taken; records = records ∙ ap (λ (t : List ℕ). (decode t).records) taken }

  not_malformed : (at : ℕ) → (decode p.taken).stop ≡ Malformed at → TakesFront (story c steps) p → ⊥
  not_malformed at ended read =
      let whole : p.taken ++ read.rest ≡ bytes_of c steps = read.whole ∙ story_bytes c steps in
      let same : decode (bytes_of c steps) ≡ decode p.taken =
      ap decode (sym whole) ∙ bad_ends p.taken read.rest at ended in
      none (sym clean ∙ ap (λ (d : Decoded). d.stop) same ∙ ended)
    where
      none : Clean ≡ Malformed at → ⊥
      none h = cc

  not_failed : StopsAt Failing (story c steps) p → ⊥
  not_failed stops = false≢true (sym sound ∙ failed_there c steps p stops)

  never_idle : (last : Option (Item ServerNote)) → WasIdle None p.last last → ⊥
  never_idle None h = h
  never_idle (Some item) h = false≢true h

  -- it ended itself, with a word that is not for want of memory
  own_word : (word : EndKind) (last : Option (Item ServerNote)) → EndedSo None last p (Some word)
      → HasRead (story c steps) (0 + pauses_had had) p (Some word) → word ≢ end.NoMemory
      → ReadToEnd (Some word) (pauses_had had) (steps_on c steps)
  own_word end.End last ended read memory = tt
  own_word (end.Partial n) last ended read memory = tt
  own_word (end.Malformed at) last ended read memory = absurd (not_malformed at ended read)
  own_word end.Failed last ended read memory = absurd (not_failed read.0)
  own_word end.NoMemory last ended read memory = absurd (memory refl)
  own_word end.Idle last ended read memory = absurd (never_idle last ended)
  own_word end.Stopped last ended read memory = absurd ended
  own_word end.Refused last ended read memory = absurd ended

  pub reads_all : (reason : Why) (word : EndKind)
      → ((reason ≡ Own → ⊥) → (p.kept ≡ None) × (pauses_had had ≡ steps_on c steps))
      → IsClosing reason p.kept word → word ≢ end.NoMemory → ReadsAll c steps had p
  reads_all reason word others closing memory = by_reason (own_or_not reason)
    where
      records_are : HasRecords (flat_map records_in had) (took_last (last_turn had)) p.taken p.kept
      records_are = (accounts c None moment (Some (untold (story c steps))) had p course).records

      ended_so : EndedSo None (last_turn had) p p.kept
      ended_so = (accounts c None moment (Some (untold (story c steps))) had p course).ended

      none_other : p.kept ≡ None → p.kept ≢ Some end.NoMemory
      none_other none e = other (sym none ∙ e)
        where
          other : ◌≡◌ {A = Option EndKind} None (Some end.NoMemory) → ⊥
          other q = cc

      same_word : p.kept ≡ Some word → p.kept ≢ Some end.NoMemory
      same_word own e = memory (value (sym own ∙ e))
        where
          value : ◌≡◌ {A = Option EndKind} (Some word) (Some end.NoMemory) → word ≡ end.NoMemory
          value q = cc

      owned : reason ≡ Own → p.kept ≡ Some word
      owned own = subst (λ (r : Why). IsClosing r p.kept word) own closing

      by_reason : (reason ≡ Own → ⊥) ⊎ (reason ≡ Own) → ReadsAll c steps had p
      by_reason (inl other) =
          let o = others other in
          with_records p.kept (took_last (last_turn had)) records_are (none_other o.0)
          (to_end (subst (λ (k : Option EndKind). ReadToEnd k (pauses_had had) (steps_on c steps))
          (sym o.0) o.1))
      by_reason (inr own) =
          let is = owned own in
          let read = subst (HasRead (story c steps) (0 + pauses_had had) p) is
          (has_read (story c steps) c None moment had p course) in
          with_records p.kept (took_last (last_turn had)) records_are (same_word is)
          (to_end (subst (λ (k : Option EndKind). ReadToEnd k (pauses_had had) (steps_on c steps))
          (sym is) (own_word word (last_turn had)
          (subst (EndedSo None (last_turn had) p) is ended_so) read memory)))
