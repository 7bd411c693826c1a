-- How both tasks end.
use Rattle.std.proofs.Common.{◌≡◌, Bool, true, false, List, ◌++◌, sym, ◌∙◌, subst, refl}
use Rattle.ev_base.specs.Sink.{SinkFacts}
use Rattle.sink_buffer.specs.declared.buffer.SinkBuffer.{SinkBuffer}
use Rattle.message_block.specs.Messages.{MessageState}
use Rattle.module_stream.specs.Progress.{Gives, Begins}
use Rattle.module_stream.specs.Active.{Runs}
use Rattle.cmd_display.specs.declared.pipeline.Pipeline.{Pipeline}
use Rattle.cmd_display.specs.Pipelines.{Prints, WritesLast, HasEnded, ArePut}
use Rattle.cmd_display.proofs.Lists.{begins-all, begins-through}

-- all messages were put, and what came out of the first task was all
ended-whole : {K : Type 0} (facts : K → SinkFacts) (first second : Gives) (o : SinkFacts)
    (put texts more : List MessageState) (w : Bool) (sink : SinkBuffer K)
    → texts ++ more ≡ first put → WritesLast facts second o texts more true w sink
    → HasEnded facts first second o put w sink
ended-whole facts first second o put texts more w sink whole e = record {
  front = put;
  begins = begins-all put;
  fed = e.put;
  follows = subst (λ all. Begins e.put all) whole e.follows;
  lines = e.lines;
  comes = e.comes;
  gathers = e.gathers;
  nothing_held = e.nothing_held;
  all = λ is. let a = e.all is in (refl, a.1 ∙ whole, a.2);
}

-- a front of them was put, or what came out was a front
ended-front : {K : Type 0} (facts : K → SinkFacts) (first second : Gives) (o : SinkFacts)
    (put front fed more : List MessageState) (follow w : Bool) (sink : SinkBuffer K)
    → Begins front put → Begins (fed ++ more) (first front)
    → WritesLast facts second o fed more follow w sink
    → HasEnded facts first second o put false sink
ended-front facts first second o put front fed more follow w sink begins comes e = record {
  front = front;
  begins = begins;
  fed = e.put;
  follows = begins-through e.put (fed ++ more) (first front) e.follows comes;
  lines = e.lines;
  comes = e.comes;
  gathers = e.gathers;
  nothing_held = e.nothing_held;
  all = λ is. absurd (cc is);
}

-- nothing followed what was put, a front of what came out of the first task
ended-before : {K : Type 0} (facts : K → SinkFacts) (first second : Gives) (o : SinkFacts)
    (put front fed more : List MessageState) (w v : Bool) (sink : SinkBuffer K)
    → Begins front put → Begins fed (first front) → (v ≡ true → w ≡ true)
    → WritesLast facts second o fed more false w sink → HasEnded facts first second o put v sink
ended-before facts first second o put front fed more w v sink begins comes weaker e = record {
  front = front;
  begins = begins;
  fed = e.put;
  follows = subst (λ f. Begins f (first front)) (sym (e.stays refl)) comes;
  lines = e.lines;
  comes = e.comes;
  gathers = e.gathers;
  nothing_held = e.nothing_held;
  all = λ is. let a = e.all (weaker is) in absurd (cc (a.0));
}

pub ended-ok : {F G K : Type 0} (gives : F → Gives) (gives' : G → Gives) (facts : K → SinkFacts)
    (first second : Gives) (o : SinkFacts) (put more : List MessageState) (all w : Bool)
    (pipeline : Pipeline F G K) (sink : SinkBuffer K)
    → ((front texts : List MessageState) → Runs gives first front texts pipeline.first
    → texts ++ more ≡ first front)
    → ((fed : List MessageState) → Prints gives' facts second o fed pipeline.second
    → WritesLast facts second o fed more all w sink)
    → ArePut gives gives' facts first second o put all pipeline
    → HasEnded facts first second o put w sink
ended-ok gives gives' facts first second o put more true w pipeline sink whole ends h =
    ended-whole facts first second o put h.texts more w sink (whole put h.texts h.runs)
    (ends h.texts h.writes)
ended-ok gives gives' facts first second o put more false w pipeline sink whole ends h =
    let all = whole h.front h.texts h.runs in
    ended-before facts first second o put h.front h.fed more w w sink h.begins
    (begins-through h.fed h.texts (first h.front) h.follows (more, sym all)) (λ is. is)
    (ends h.fed h.writes)

pub ended-err : {F G K : Type 0} (gives : F → Gives) (gives' : G → Gives) (facts : K → SinkFacts)
    (first second : Gives) (o : SinkFacts) (put more : List MessageState) (all w : Bool)
    (pipeline : Pipeline F G K) (sink : SinkBuffer K)
    → ((front texts : List MessageState) → Runs gives first front texts pipeline.first
    → Begins (texts ++ more) (first front))
    → ((fed : List MessageState) → Prints gives' facts second o fed pipeline.second
    → WritesLast facts second o fed more all w sink)
    → ArePut gives gives' facts first second o put all pipeline
    → HasEnded facts first second o put false sink
ended-err gives gives' facts first second o put more true w pipeline sink front ends h =
    ended-front facts first second o put put h.texts more true w sink (begins-all put)
    (front put h.texts h.runs) (ends h.texts h.writes)
ended-err gives gives' facts first second o put more false w pipeline sink front ends h =
    ended-before facts first second o put h.front h.fed more w false sink h.begins
    (begins-through h.fed h.texts (first h.front) h.follows
    (begins-through h.texts (h.texts ++ more) (first h.front) (more, refl)
    (front h.front h.texts h.runs)))
    (λ is. absurd (cc is)) (ends h.fed h.writes)
