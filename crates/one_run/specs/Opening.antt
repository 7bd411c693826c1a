-- How a run of one connection begins.
use Rattle.std.specs.Prelude.{◌≡◌, ◌⊎◌, ℕ, Bool, true, false, List, [], ◌∷◌, length, Option, Some}
use Rattle.std.specs.Prelude.{None, option_map}
use Rattle.ev_base.specs.Counts.{counted}
use Rattle.ev_base.specs.Bytes.{ReaderBytes}
use Rattle.ev_base.specs.Source.{SourceFacts}
use Rattle.ev_base.specs.Sink.{SinkFacts}
use Rattle.ev_base.specs.Story.{Story, OfBytes}
use Rattle.ev_base.specs.Terms.{Terms}
use Rattle.reactor_model.specs.reactor_journal.specs.declared.entry.Entry.TheVariants as entry
use Rattle.reactor_model.specs.Volumes.{VolumesFacts}
use Rattle.reactor_core.specs.Ends.{WhereTold}
use Rattle.log_handler.specs.declared.note.ServerNote.{ServerNote}
use Rattle.one_net.specs.OneKeeps.{StartsAt}
use Rattle.one_run.specs.Running.{AreOfOne}
use Rattle.one_run.specs.declared.opening.Unopened.{Unopened}

-- The terms lay down what the source, the sink and the volumes tell at the start of a run. There is
-- one handler, no listener and no script.
pub record StartsRun (t : Terms) (i : SourceFacts) (o : SinkFacts)
    (v : VolumesFacts ServerNote) : Type 0 where
  pub most : t.most ≡ 1
  pub of_one : AreOfOne t
  pub no_listener : t.offers ≡ None
  pub no_script : t.groups ≡ None
  pub source : StartsAt t i
  pub opening : (text : List ℕ) → t.opening ≡ Some text → o.text ≡ Some text
  pub output_faults : (n : ℕ) → t.output_faults ≡ Some n → o.faults ≡ n
  pub taken : WhereTold (λ entries. (n : ℕ) → t.volumes_taken ≡ Some n → length entries ≡ n) v.taken

-- the stories of the terms: what the source has left, and under number 1, which no end has, what it
-- gave before
abbrev pub stories_of : Option ReaderBytes → Option (List Story)
stories_of None = None
stories_of (Some bytes) = Some (OfBytes bytes.left ∷ OfBytes bytes.given ∷ [])

-- the terms that say all that is told
abbrev pub terms_of_run : SourceFacts → SinkFacts → VolumesFacts ServerNote → Terms
terms_of_run i o v = record {
  most = 1;
  limit = Some None;
  offers = None;
  stories = stories_of i.bytes;
  groups = None;
  opening = o.text;
  input_gave = Some i.gave;
  input_faults = Some i.faults;
  output_faults = Some o.faults;
  steady = Some true;
  by_turn = None;
  idle = Some None;
  volumes_taken = option_map length v.taken;
  volumes_faults = Some v.faults;
}

-- volumes have taken nothing, and none failed
pub record TakesNothing (v w : VolumesFacts ServerNote) : Type 0 where
  pub taken : w.taken ≡ v.taken
  pub faults : w.faults ≡ v.faults

-- a sink counts one failed write more if one failed, and else none
abbrev pub CountsWrite : Bool → ℕ → ℕ → Type 0
CountsWrite true before now = now ≡ counted before
CountsWrite false before now = now ≡ before

-- No handler was registered: the journal is empty, or the end alone, and the text of the output is
-- what it was. The output counts one failed write more if one failed.
pub record LeavesNothing {S K V : Type 0} (sink : K → SinkFacts) (t : Terms)
    (left : Unopened S K V) : Type 0 where
  pub journal : (left.journal.entries ≡ []) ⊎ (left.journal.entries ≡ entry.Ended ∷ [])
  pub text : (text : List ℕ) → t.opening ≡ Some text → (sink left.output).text ≡ Some text
  pub output_faults : (n : ℕ) → t.output_faults ≡ Some n
      → CountsWrite left.broken n (sink left.output).faults

-- and the source was not read
pub record LeavesUnopened {S K V : Type 0} (source : S → SourceFacts) (sink : K → SinkFacts)
    (input : S) (output : K) (left : Unopened S K V) : Type 0 where
  pub journal : (left.journal.entries ≡ []) ⊎ (left.journal.entries ≡ entry.Ended ∷ [])
  pub text : (text : List ℕ) → (sink output).text ≡ Some text → (sink left.output).text ≡ Some text
  pub bytes : (source left.input).bytes ≡ (source input).bytes
  pub faults : (source left.input).faults ≡ (source input).faults
  pub gave : (source left.input).gave ≡ (source input).gave
  pub output_faults : CountsWrite left.broken (sink output).faults (sink left.output).faults
