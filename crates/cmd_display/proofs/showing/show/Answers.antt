use Rattle.std.proofs.Common.{◌∙◌, ap, subst, false, ◌++◌, List, [], ℕ, append_assoc}
use Rattle.bounded_input.specs.Input.{TakesInput}
use Rattle.bounded_input.specs.Reading.{limit_of, input_of}
use Rattle.cdr_record.specs.Grammar.{first_of}
use Rattle.cmd_display.specs.Windows.{rest_of}
use Rattle.cmd_display.proofs.showing.show.Goals as goal

pub returns-then-is_broken-clause-leaves : goal.returns-then-is_broken-clause-leaves
returns-then-is_broken-clause-leaves g c = λ i first second o h.
    let s = (c.in-More.ensures.cuts i first second o
    (c.loop-pipeline.invariant.0 i first second o h)).0 in record {
      cut = s.cut;
      put = s.put;
      is_cut = s.is_cut;
      stops = s.windows;
      are_put = c.flush.ensures.shows first second o s.put s.shows;
    }

pub loop-pipeline-preserved : goal.loop-pipeline-preserved
loop-pipeline-preserved g c = (
  λ i first second o h.
      let s = (c.in-More.ensures.cuts i first second o
      (c.loop-pipeline.invariant.0 i first second o h)).0 in record {
        cut = s.cut;
        put = s.put;
        is_cut = s.is_cut;
        windows = c.in-More-read_on.ensures.fills i s.cut s.windows;
        shows = c.flush.ensures.shows first second o s.put s.shows;
      },
  c.read_on.ensures.limit ∙ ap limit_of c.put_records.ensures.input ∙ c.loop-pipeline.invariant.1,
)

pub returns-in-Over-clause-leaves : goal.returns-in-Over-clause-leaves
returns-in-Over-clause-leaves g c = λ i first second o h.
    let both = c.in-More.ensures.cuts i first second o
    (c.loop-pipeline.invariant.0 i first second o h) in
    let s = both.0 in
    let over = c.in-Over.ensures.fills i s.cut s.windows in record {
      cut = s.cut;
      put = s.put;
      is_cut = s.is_cut;
      stops = (over.1, over.0, ap first_of over.2 ∙ both.1);
      are_put = c.flush.ensures.shows first second o s.put s.shows;
    }

pub returns-in-Failed-clause-leaves : goal.returns-in-Failed-clause-leaves
returns-in-Failed-clause-leaves g c = λ i first second o h.
    let both = c.in-More.ensures.cuts i first second o
    (c.loop-pipeline.invariant.0 i first second o h) in
    let s = both.0 in record {
      cut = s.cut;
      put = s.put;
      is_cut = s.is_cut;
      stops = (
        rest_of c.put_records.new.window,
        both.1,
        c.in-Failed.ensures.fills i s.cut s.windows,
      );
      are_put = c.flush.ensures.shows first second o s.put s.shows;
    }

pub returns-in-TooLong-clause-leaves : goal.returns-in-TooLong-clause-leaves
returns-in-TooLong-clause-leaves g c = λ i first second o h.
    let both = c.in-More.ensures.cuts i first second o
    (c.loop-pipeline.invariant.0 i first second o h) in
    let s = both.0 in record {
      cut = s.cut;
      put = s.put;
      is_cut = s.is_cut;
      stops = (
        rest_of c.put_records.new.window,
        both.1,
        c.in-TooLong.ensures.fills i s.cut s.windows,
      );
      are_put = c.flush.ensures.shows first second o s.put s.shows;
    }

pub returns-in-NoMemory-read_on-clause-leaves : goal.returns-in-NoMemory-read_on-clause-leaves
returns-in-NoMemory-read_on-clause-leaves g c = λ i first second o h.
    let s = (c.in-More.ensures.cuts i first second o
    (c.loop-pipeline.invariant.0 i first second o h)).0 in
    let rest = rest_of c.put_records.new.window in
    let lost = c.in-NoMemory-read_on.ensures.fills i s.cut s.windows in record {
      cut = s.cut;
      put = s.put;
      is_cut = s.is_cut;
      stops = (
        rest ++ lost.0,
        subst (λ (bytes : List ℕ).
            TakesInput (limit_of c.read_on.new.window.input) false i
            (g.S.Source.facts (input_of c.read_on.new.window.input)) bytes [])
            (append_assoc s.cut rest lost.0) lost.1.takes,
      );
      are_put = c.flush.ensures.shows first second o s.put s.shows;
    }

pub returns-in-Bad-clause-leaves : goal.returns-in-Bad-clause-leaves
returns-in-Bad-clause-leaves g c =
    λ i first second o h. c.in-Bad.ensures.cuts i first second o
    (c.loop-pipeline.invariant.0 i first second o h)

pub returns-in-NoMemory-clause-leaves : goal.returns-in-NoMemory-clause-leaves
returns-in-NoMemory-clause-leaves g c =
    λ i first second o h. c.in-NoMemory.ensures.cuts i first second o
    (c.loop-pipeline.invariant.0 i first second o h)

pub returns-in-Over-clause-limit : goal.returns-in-Over-clause-limit
returns-in-Over-clause-limit g c =
    c.read_on.ensures.limit ∙ ap limit_of c.put_records.ensures.input ∙ c.loop-pipeline.invariant.1

pub returns-in-Failed-clause-limit : goal.returns-in-Failed-clause-limit
returns-in-Failed-clause-limit g c =
    c.read_on.ensures.limit ∙ ap limit_of c.put_records.ensures.input ∙ c.loop-pipeline.invariant.1

pub returns-in-TooLong-clause-limit : goal.returns-in-TooLong-clause-limit
returns-in-TooLong-clause-limit g c =
    c.read_on.ensures.limit ∙ ap limit_of c.put_records.ensures.input ∙ c.loop-pipeline.invariant.1

pub returns-in-NoMemory-read_on-clause-limit : goal.returns-in-NoMemory-read_on-clause-limit
returns-in-NoMemory-read_on-clause-limit g c =
    c.read_on.ensures.limit ∙ ap limit_of c.put_records.ensures.input ∙ c.loop-pipeline.invariant.1

pub returns-then-is_broken-clause-limit : goal.returns-then-is_broken-clause-limit
returns-then-is_broken-clause-limit g c =
    ap limit_of c.put_records.ensures.input ∙ c.loop-pipeline.invariant.1

pub returns-in-Bad-clause-limit : goal.returns-in-Bad-clause-limit
returns-in-Bad-clause-limit g c = ap limit_of c.put_records.ensures.input
    ∙ c.loop-pipeline.invariant.1

pub returns-in-NoMemory-clause-limit : goal.returns-in-NoMemory-clause-limit
returns-in-NoMemory-clause-limit g c =
    ap limit_of c.put_records.ensures.input ∙ c.loop-pipeline.invariant.1
