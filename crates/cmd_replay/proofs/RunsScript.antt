-- From what a run over a script leaves to what one leaves whose journal is written.
use Rattle.std.proofs.Common.{◌≡◌, ◌∙◌, ◌<◌, ◌+◌, ◌⊎◌, arith, inl, inr, ℕ, Bool, true, false, List}
use Rattle.std.proofs.Common.{[], length, drop, Option, Some, None, refl, sym, ap, subst}
use Rattle.std.specs.Prelude.{map, option_map, slice_get}
use Rattle.std.proofs.lemmas.List.{length-map, get_or-map}
use Rattle.std.proofs.lemmas.List.FromFn.{fill_by_all}
use Rattle.std.proofs.lemmas.Option.{same_Some, slice_get-map}
use Rattle.ev_base.specs.Counts.{Rose}
use Rattle.ev_base.specs.Sink.{SinkFacts}
use Rattle.ev_base.specs.Story.{Story, Offer, OfParts}
use Rattle.ev_base.specs.Terms.{Terms, Group}
use Rattle.ev_base.specs.declared.end.PeerEnd.{Ghosts}
use Rattle.chosen_timers.specs.Chosen.{timers_of}
use Rattle.chosen_timers.specs.declared.ChosenTimers.{ChosenTimers}
use Rattle.server_run.specs.reactor_journal.specs.declared.entry.Entry.{Entry}
use Rattle.server_run.specs.reactor_core.specs.Ends.{WhereTold}
use Rattle.server_run.specs.reactor_core.specs.Stands.{Meaning}
use Rattle.server_run.specs.acceptor.specs.declared.server.ServerHandler.{ServerHandler}
use Rattle.server_run.specs.reactor_model.specs.Volumes.{VolumesFacts}
use Rattle.server_run.specs.log_handler.specs.declared.note.ServerNote.{ServerNote}
use Rattle.cmd_line.specs.declared.options.Form.{Form}
use Rattle.script_net.specs.event_script.specs.Script.{ScriptGroup, steps_of, groups_told, opened}
use Rattle.script_net.specs.event_script.specs.Stories.{story, stories, offers}
use Rattle.grouped_lines.specs.laws_script_runs.specs.Connections.{lines_by_connection}
use Rattle.script_net.specs.Content.{ConnectionContent}
use Rattle.script_net.specs.Hosts.{ScriptContent, LaysDown}
use Rattle.script_text.specs.Parsing.{HasGroups}
use Rattle.script_net.specs.NetContent.{NetContent}
use Rattle.script_net.specs.declared.end.ScriptEnd.{ScriptEnd}
use Rattle.laws_script_served.specs.Terms.{terms_of_script}
use Rattle.laws_script_served.proofs.Scripts.{have-script}
use Rattle.server_run.specs.declared.asked.Asked.{Asked}
use Rattle.server_run.specs.declared.ending.Ending.{Ending}
use Rattle.server_run.specs.declared.ending.Ending.TheVariants as ending
use Rattle.server_run.specs.declared.ending.Served.{Served}
use Rattle.server_run.specs.sink_buffer.specs.Written.{TookAll, TookFront}
use Rattle.cmd_replay.specs.Outputs.{WritesText, WritesBehind, text_in}
use Rattle.cmd_replay.specs.Playing.{CanPlay, terms_of_content}
use Rattle.cmd_replay.specs.Replays.{EndsReplay, IsOfText, RanIn, RunsScript, WritesHeld, end_by}
use Rattle.cmd_replay.specs.Replays.{terms_in}
use Rattle.cmd_replay.specs.Runs.{FailsNet, ForScript, LeavesScript}
use Rattle.cmd_replay.specs.declared.ends.Kept.{Kept}
use Rattle.cmd_replay.specs.declared.ends.Played.{Played}
use Rattle.cmd_replay.specs.declared.ends.ReplayEnd.{ReplayEnd}
use Rattle.cmd_replay.specs.declared.ends.ReplayEnd.TheVariants as end

-- ---- the beginning

pub number_is : (a n : ℕ) → ◌≡◌ {A = Option ℕ} (Some a) (Some n) → a ≡ n
number_is a n told = cc

taken_are : {N : Type 0} (taken : Option (List (Entry N)))
    → WhereTold (λ entries. (n : ℕ) → option_map length taken ≡ Some n → length entries ≡ n) taken
taken_are None = tt
taken_are (Some entries) = λ n told. number_is (length entries) n told

lays-itself : (connections : ℕ) (idle : Option ℕ) (script : ScriptContent) (o : SinkFacts)
    (v : VolumesFacts ServerNote) → LaysDown (terms_of_content connections idle script o v) script
lays-itself connections idle script o v = record {
  groups = λ told is. sym (same_Some _ told is);
  offers = λ told is. sym (same_Some _ told is);
  stories = λ k connection story_told here told.
      sym (same_Some _ story_told (sym (slice_get-map (λ (c : ConnectionContent). OfParts c.parts)
      script.connections k ∙ ap (option_map (λ (c : ConnectionContent). OfParts c.parts)) here)
      ∙ ap (λ n. slice_get (map (λ (c : ConnectionContent). OfParts c.parts) script.connections)
      n) (from-none k) ∙ told));
} where
  from-none : (k : ℕ) → k ≡ 0 + k
  from-none k = omega arith

pub can-play : {W V : Type 0} (watched : Terms → W → List (Entry ServerNote) → Type 0)
    (facts : V → VolumesFacts ServerNote) (asked : Asked) (script : ScriptContent)
    (timers : ChosenTimers) (watch : W) (volumes : V)
    (o : SinkFacts) → timers_of timers ≡ [] → asked.limit ≡ None
    → watched (terms_of_content asked.connections asked.idle script o (facts volumes)) watch []
    → CanPlay watched facts asked script timers watch volumes
    (terms_of_content asked.connections asked.idle script o (facts volumes))
can-play watched facts asked script timers watch volumes o none unlimited seen = record {
  terms = record { limit = ap Some (sym unlimited); idle = refl; by_turn = refl };
  most = refl;
  laid = lays-itself asked.connections asked.idle script o (facts volumes);
  no_timers = none;
  seen = seen;
  taken = taken_are (facts volumes).taken;
}

-- the terms of what a script holds are those of its groups
stories-are : (script : ScriptContent) (groups : List ScriptGroup) → HasGroups script 0 groups
    → map (λ (c : ConnectionContent). OfParts c.parts) script.connections
    ≡ stories (steps_of groups)
stories-are script groups has =
    fill_by_all (λ c. OfParts (story c (steps_of groups))) (map told script.connections)
    (opened (steps_of groups)) (OfParts []) (length-map script.connections told ∙ has.many)
    (λ k few. let within : k < length script.connections = subst (λ n. k < n) (sym has.many) few in
    get_or-map told script.connections k no_connection (OfParts []) within
    ∙ ap OfParts (has.tells k no_connection within))
  where
    told : ConnectionContent → Story
    told c = OfParts c.parts

    no_connection : ConnectionContent
    no_connection = record { parts = []; room = 0 }

pub same-terms : (connections : ℕ) (idle : Option ℕ) (script : ScriptContent)
    (groups : List ScriptGroup) (o : SinkFacts) (v : VolumesFacts ServerNote)
    → HasGroups script 0 groups
    → terms_of_content connections idle script o v ≡ terms_of_script connections idle groups o v
same-terms connections idle script groups o v has =
    ap (λ (g : List Group). terms_of_content connections idle
    (record { groups = g; offers = script.offers; connections = script.connections }) o v)
    has.plays
    ∙ ap (λ (f : List Offer). with-offers f
    (map (λ (c : ConnectionContent). OfParts c.parts) script.connections)) has.offers_are
    ∙ ap (with-offers (offers (steps_of groups))) (stories-are script groups has)
  where
    with-offers : List Offer → List Story → Terms
    with-offers f s = record {
      most = connections + 1;
      limit = Some None;
      offers = Some f;
      stories = Some s;
      groups = Some (groups_told groups);
      opening = o.text;
      input_gave = None;
      input_faults = None;
      output_faults = Some o.faults;
      steady = Some true;
      by_turn = Some 1;
      idle = Some idle;
      volumes_taken = option_map length v.taken;
      volumes_faults = Some v.faults;
    }

pub for-script : (asked : Asked) (script : ScriptContent) (groups : List ScriptGroup)
    (o : SinkFacts) (v : VolumesFacts ServerNote) → IsOfText script groups → asked.limit ≡ None
    → ForScript asked groups (terms_of_script asked.connections asked.idle groups o v)
for-script asked script groups o v text unlimited = record {
  text = text.text;
  is_text = text.is_text;
  have = have-script asked.connections asked.idle groups o v;
  terms = record { limit = ap Some (sym unlimited); idle = refl; by_turn = refl };
  most = refl;
  steady = refl;
}

-- what a run that was played under the terms of what the script holds leaves under those of its
-- groups
pub leaves-so : {W V Q : Type 0} {G : Ghosts ScriptEnd}
    (m : Meaning (ServerHandler ScriptEnd G) NetContent Q W V ServerNote ScriptEnd)
    (asked : Asked) (script : ScriptContent) (groups : List ScriptGroup)
    (o p : SinkFacts) (v : VolumesFacts ServerNote) (served : Served NetContent Q W V) → o ≡ p
    → IsOfText script groups → asked.limit ≡ None
    → ((groups : List ScriptGroup) → ForScript asked groups
    (terms_of_content asked.connections asked.idle script o v)
    → LeavesScript G m (terms_of_content asked.connections asked.idle script o v) asked groups
    served)
    → LeavesScript G m (terms_of_script asked.connections asked.idle groups p v) asked groups served
leaves-so {W} {V} {Q} {G} m asked script groups o p v served are text unlimited leaves =
    let same = same-terms asked.connections asked.idle script groups o v text.has in
    let left = subst (λ (t : Terms). LeavesScript G m t asked groups served) same
    (leaves groups (subst (λ (t : Terms). ForScript asked groups t) (sym same)
    (for-script asked script groups o v text unlimited))) in
    subst (λ (o : SinkFacts). LeavesScript G m
    (terms_of_script asked.connections asked.idle groups o v) asked groups served) are left

-- ---- what is kept of a run

abbrev pub kept_of : {M Q W V : Type 0} → Served M Q W V → Kept W V
kept_of served = record {
  ending = served.ending;
  journal = served.parts.journal;
  first = served.parts.first;
  watch = served.parts.watch;
  volumes = served.parts.volumes;
}

-- the run with what was kept put back
abbrev pub put_back : {M Q W V : Type 0} → Served M Q W V → Kept W V → Served M Q W V
put_back served kept = record {
  ending = kept.ending;
  parts = record served.parts {
    journal = kept.journal;
    first = kept.first;
    watch = kept.watch;
    volumes = kept.volumes;
  };
}

pub leaves-kept : {W V Q : Type 0} {G : Ghosts ScriptEnd}
    (m : Meaning (ServerHandler ScriptEnd G) NetContent Q W V ServerNote ScriptEnd)
    (t : Terms) (asked : Asked) (groups : List ScriptGroup)
    (served : Served NetContent Q W V) (kept : Kept W V) → kept ≡ kept_of served
    → LeavesScript G m t asked groups served
    → LeavesScript G m t asked groups (put_back served kept)
leaves-kept {W} {V} {Q} {G} m t asked groups served kept is leaves =
    subst (λ (k : Kept W V). LeavesScript G m t asked groups (put_back served k)) (sym is) leaves

pub steady-kept : {M Q W V : Type 0} (served : Served M Q W V) (kept : Kept W V)
    → kept ≡ kept_of served → (FailsNet served.ending → ⊥) → FailsNet kept.ending → ⊥
steady-kept {M} {Q} {W} {V} served kept is steady =
    subst (λ (k : Kept W V). FailsNet k.ending → ⊥) (sym is) steady

pub rose-kept : {M Q W V : Type 0} (facts : V → VolumesFacts ServerNote) (before : ℕ)
    (served : Served M Q W V) (kept : Kept W V) → kept ≡ kept_of served
    → (served.ending ≡ ending.VolumeFault → Rose before (facts served.parts.volumes).faults)
    → kept.ending ≡ ending.VolumeFault → Rose before (facts kept.volumes).faults
rose-kept {M} {Q} {W} {V} facts before served kept is rose =
    subst (λ (k : Kept W V). k.ending ≡ ending.VolumeFault → Rose before (facts k.volumes).faults)
    (sym is) rose

-- ---- the end

pub ends-as : (broken : Bool) (how : Ending) (before now : ℕ) → (FailsNet how → ⊥)
    → (how ≡ ending.VolumeFault → Rose before now) → EndsReplay (end_by broken how) how before now
ends-as true how before now steady rose = tt
ends-as false ending.Over before now steady rose = inl refl
ends-as false ending.Notified before now steady rose = inr refl
ends-as false ending.VolumeFault before now steady rose = (refl, rose refl)
ends-as false ending.NoMemory before now steady rose = λ q. absurd cc
ends-as false ending.Broken before now steady rose = λ q. absurd cc
ends-as false ending.NotAttached before now steady rose = absurd (steady tt)
ends-as false ending.NetFault before now steady rose = absurd (steady tt)

-- what was played is what the run left, with this output
abbrev pub played_of : {W V Q K : Type 0} → Served NetContent Q W V → ReplayEnd → K → Played K V
played_of served how output = record {
  end = how;
  journal = served.parts.journal;
  first = served.parts.first;
  output = output;
  volumes = served.parts.volumes;
}

pub runs-script : {K W V Q : Type 0} {G : Ghosts ScriptEnd}
    (m : Meaning (ServerHandler ScriptEnd G) NetContent Q W V ServerNote ScriptEnd)
    (sink : K → SinkFacts) (form : Form) (asked : Asked) (groups : List ScriptGroup)
    (o : SinkFacts) (v : VolumesFacts ServerNote) (served : Served NetContent Q W V)
    (how : ReplayEnd) (output : K)
    (l : LeavesScript G m (terms_in form asked groups o v) asked groups served)
    → RanIn G sink m.volumes form (terms_in form asked groups o v) asked groups served.ending
    l.journal
    → EndsReplay how served.ending v.faults (m.volumes served.parts.volumes).faults
    → WritesText form how o (text_in form (asked.connections + 1) l.journal) (sink output)
    → RunsScript G sink m.volumes form asked groups o v (played_of served how output)
runs-script {K} {W} {V} {Q} {G} m sink form asked groups o v served how output l ran ends
    written = record {
      how = served.ending;
      journal = l.journal;
      is = l.is;
      ran = ran;
      ends = ends;
      written = written;
    }

-- ---- text that is written after the run

unfailed : (how : Ending) → (how ≡ ending.Over) ⊎ (how ≡ ending.Notified)
    → how ≡ ending.VolumeFault → ⊥
unfailed how (inl over) failed = let both = sym over ∙ failed in cc
unfailed how (inr noticed) failed = let both = sym noticed ∙ failed in cc

behind-done : (how : Ending) (first : ℕ) (o : SinkFacts) (entries journal : List (Entry ServerNote))
    (now : ReplayEnd) (p : SinkFacts) (before after : ℕ) → (how ≡ ending.Over)
    ⊎ (how ≡ ending.Notified)
    → entries ≡ drop first journal → WritesHeld end.Done first o (lines_by_connection entries) now p
    → EndsReplay now how before after × WritesBehind now o (lines_by_connection journal) p
behind-done how first o entries journal end.Done p before after ended are w = (
  ended,
  subst (λ (es : List (Entry ServerNote)). TookAll o (lines_by_connection es) p)
      (are ∙ ap (λ n. drop n journal) w.0) w.1,
)
behind-done how first o entries journal end.WriteFault p before after ended are w = (
  tt,
  subst (λ (es : List (Entry ServerNote)). TookFront o (lines_by_connection es) p)
      (are ∙ ap (λ n. drop n journal) w.0) w.1,
)
behind-done how first o entries journal end.NoMemory p before after ended are w =
    (unfailed how ended, w)
behind-done how first o entries journal (end.BadText line) p before after ended are w = absurd w
behind-done how first o entries journal end.ReadFault p before after ended are w = absurd w
behind-done how first o entries journal end.TooLong p before after ended are w = absurd w
behind-done how first o entries journal end.VolumeFault p before after ended are w = absurd w

behind-fault : (run : ReplayEnd) (how : Ending) (o : SinkFacts) (text : List ℕ) (now : ReplayEnd)
    (p : SinkFacts) (before after : ℕ) → EndsReplay run how before after → WritesBehind run o text o
    → now ≡ run → p ≡ o
    → EndsReplay now how before after × WritesBehind now o text p
behind-fault run how o text now p before after ends writes is same = (
  subst (λ (e : ReplayEnd). EndsReplay e how before after) (sym is) ends,
  subst (λ (q : SinkFacts). WritesBehind now o text q) (sym same)
      (subst (λ (e : ReplayEnd). WritesBehind e o text o) (sym is) writes),
)

pub writes-behind : (how : Ending) (first : ℕ) (o : SinkFacts)
    (entries journal : List (Entry ServerNote)) (now : ReplayEnd) (p : SinkFacts) (before after : ℕ)
    → (FailsNet how → ⊥) → (how ≡ ending.VolumeFault → Rose before after)
    → entries ≡ drop first journal → WritesHeld (end_by false how) first o
    (lines_by_connection entries) now p → EndsReplay now how before after
    × WritesBehind now o (lines_by_connection journal) p
writes-behind ending.Over first o entries journal now p before after steady rose are w =
    behind-done ending.Over first o entries journal now p before after (inl refl) are w
writes-behind ending.Notified first o entries journal now p before after steady rose are w =
    behind-done ending.Notified first o entries journal now p before after (inr refl) are w
writes-behind ending.VolumeFault first o entries journal now p before after steady rose are w =
    behind-fault end.VolumeFault ending.VolumeFault o _ now p before after (refl, rose refl) refl
    w.0 w.1
writes-behind ending.NoMemory first o entries journal now p before after steady rose are w =
    behind-fault end.NoMemory ending.NoMemory o _ now p before after (λ q. absurd cc) refl w.0 w.1
writes-behind ending.Broken first o entries journal now p before after steady rose are w =
    behind-fault end.NoMemory ending.Broken o _ now p before after (λ q. absurd cc) refl w.0 w.1
writes-behind ending.NotAttached first o entries journal now p before after steady rose are w =
    absurd (steady tt)
writes-behind ending.NetFault first o entries journal now p before after steady rose are w =
    absurd (steady tt)
