-- What is answered of a run that was told.
use Rattle.std.proofs.Common.{ℕ, ◌≡◌, ◌∙◌, inl, inr, List, Option, Some, None, refl, sym, subst}
use Rattle.ev_base.specs.End.{EndFacts}
use Rattle.ev_base.specs.Net.{NetFacts}
use Rattle.ev_base.specs.Sink.{SinkFacts}
use Rattle.ev_base.specs.Source.{SourceFacts}
use Rattle.cmd_line.specs.Given.{Text}
use Rattle.cmd_forward.specs.Answers.{HasAnswered, HasBegun, HasOutcome, most_input}
use Rattle.cmd_forward.specs.Statuses.{RunEnds}
use Rattle.cmd_forward.specs.Telling.{BecomesTold, IsTold}
use Rattle.cmd_forward.specs.Words.{forward_of}
use Rattle.cmd_forward.specs.declared.command.Forwarded.{Forwarded}
use Rattle.cmd_forward.specs.declared.running.Ran.{Ran}
use Rattle.cmd_forward.specs.declared.outcome.Outcome.{Outcome}
use Rattle.cmd_forward.specs.declared.outcome.Outcome.TheVariants as outcome
use Rattle.cmd_forward.specs.declared.words.ForwardOptions.{ForwardOptions}

module _ {M S K E : Type 0} (tells : E → EndFacts) (facts : M → NetFacts E)
    (source : S → SourceFacts) (sink : K → SinkFacts) (words : List Text) (before now : ℕ)
    (input : S) (output : K) (left : Forwarded M S K) (options : ForwardOptions) (ran : Ran M S)
    (called : forward_of words ≡ Some options) (dialled : now ≡ before)
    (net_is : left.net ≡ Some ran.net) where
  abbrev Says : Outcome → Type 0
  Says = HasOutcome tells facts source sink words before now input output left

  abbrev Ends : Outcome → Type 0
  Ends = RunEnds tells most_input options.wait (source input) (source left.input) (facts ran.net)

  begun : (P : ForwardOptions → M → Type 0) → P options ran.net → HasBegun words before now left P
  begun P so = record {
    options = options;
    called = called;
    dialled = dialled;
    net = ran.net;
    net_is = net_is;
    so = so;
  }

  says : (ended told : Outcome) → Ends ended → BecomesTold sink ended output told left.output
      → Says told
  unfolding begun
  says (outcome.Done records bytes) told (run, done) (inl (is, all)) =
      subst Says (sym is) (begun _ (records, bytes, run, done, (refl, refl, all)))
  says (outcome.Done records bytes) told (run, done) (inr (is, front)) =
      subst Says (sym is) (begun _ (records, bytes, run, done, front))
  says outcome.Usage told ends (is, same) = absurd ends
  says outcome.ReadFault told ends (is, same) = subst Says (sym is) (begun _ (same, ends))
  says outcome.WriteFault told ends (is, same) = absurd ends
  says outcome.NetFault told ends (is, same) = subst Says (sym is) (begun _ (same, ends))
  says outcome.NoMemory told ends (is, same) = subst Says (sym is) (inr (begun _ (same, ends)))
  says (outcome.BadRecord at) told ends (is, same) = subst Says (sym is) (begun _ (same, ends))
  says outcome.TooLong told ends (is, same) = subst Says (sym is) (begun _ (same, ends))
  says outcome.PeerFault told ends (is, same) = subst Says (sym is) (inr (begun _ (same, ends)))
  says (outcome.ConnectTimeout at) told ends (is, same) =
      subst Says (sym is) (begun _ (same, ends))
  says outcome.Unfinished told ends (is, same) = subst Says (sym is) (begun _ (same, ends))

module _ {M S K E : Type 0} (tells : E → EndFacts) (facts : M → NetFacts E)
    (source : S → SourceFacts) (sink : K → SinkFacts) (words : List Text) (before now : ℕ)
    (input : S) (output : K) (left : Forwarded M S K) (options : ForwardOptions)
    (ran : Ran M S) where
  pub answers : forward_of words ≡ Some options → now ≡ before
      → RunEnds tells most_input options.wait (source input) (source ran.input) (facts ran.net)
      ran.outcome → IsTold sink ran output left
      → HasAnswered tells facts source sink words before now input output left
  answers called dialled ends told = record {
    outcome = told.outcome;
    code = told.numbers.code;
    number = told.numbers.number;
    means = says tells facts source sink words before now input output left options ran called
        dialled told.net ran.outcome told.outcome
        (subst (λ (s : S). RunEnds tells most_input options.wait (source input) (source s)
        (facts ran.net) ran.outcome) (sym told.input) ends) told.told;
  }

-- ---- what is there

-- of two values that are there, both are the one
pub same_net : {A : Type 0} (there : Option A) (a b : A) → there ≡ Some a → there ≡ Some b → a ≡ b
same_net there a b first second = same (sym first ∙ second)
  where
    same : Some a ≡ Some b → a ≡ b
    same q = cc

pub no_net : {A X : Type 0} (there : Option A) (a : A) → there ≡ None → there ≡ Some a → X
no_net {A} {X} there a none some = absurd (not_there (sym none ∙ some))
  where
    not_there : ◌≡◌ {A = Option A} None (Some a) → ⊥
    not_there q = cc
