-- What a run took of its input, and that what its end was given is a front of what is forwarded.
use Rattle.std.proofs.Common.{ℕ, ◌≡◌, ◌≢◌, ◌^◌, false, List, [], ◌∷◌, ◌++◌, length, map, Option}
use Rattle.std.proofs.Common.{Some}
use Rattle.std.proofs.Common.{None, refl, sym, ap, subst, ◌∙◌, arith, length-append}
use Rattle.std.specs.Option.{option_to_list}
use Rattle.std.specs.Prelude.{option_and_then, slice_get}
use Rattle.ev_base.specs.Bytes.{ReaderBytes, MovesOn, HasGiven}
use Rattle.ev_base.specs.End.{EndFacts}
use Rattle.ev_base.specs.Net.{Call, NetFacts}
use Rattle.ev_base.specs.Source.{SourceFacts}
use Rattle.ev_base.specs.Story.{Story, OfBytes}
use Rattle.ev_base.specs.Terms.{Terms}
use Rattle.ev_base.specs.declared.end.PeerEnd.{Ghosts}
use Rattle.ev_base.specs.declared.net.Net.{Ghosts as NetGhosts}
use Rattle.ev_base.specs.ev_types.specs.declared.upcall.Why.{Why}
use Rattle.reactor_model.specs.reactor_journal.specs.Event.{Item}
use Rattle.reactor_core.specs.Ends.{WhereTold}
use Rattle.connector_run.specs.Waits.{AskedUntil}
use Rattle.forwarder.specs.connector.specs.Connecting.{Progress}
use Rattle.forwarder.specs.connector.specs.Connectors.{ConnectorGone}
use Rattle.forwarder.specs.connector.specs.declared.note.ConnectNote.{ConnectNote}
use Rattle.forwarder.specs.ForwardEnds.{ForwardKeeps, forward_facts, input_end, peer_of}
use Rattle.forwarder.specs.ForwardNets.{ForwardNetKeeps, net_within}
use Rattle.forwarder.specs.Forwarded.{HasServed}
use Rattle.forwarder.specs.declared.forward_end.ForwardEnd.{ForwardEnd}
use Rattle.forwarder.specs.declared.forward_net.ForwardNet.{ForwardNet}
use Rattle.forwarder.specs.declared.forwarder.Forwarder.{Forwarder}
use Rattle.forwarder.specs.declared.note.ForwardNote.{ForwardNote}
use Rattle.forwarder.specs.one_net.specs.OneEnd.{count_of, end_bytes, extra_of, failed_of, given_by}
use Rattle.forwarder.specs.one_net.specs.OneEnd.{given_of}
use Rattle.forwarder.specs.one_net.specs.OneEnd.{input_of, one_end_facts}
use Rattle.forwarder.specs.one_net.specs.OneKeeps.{OneEndKeeps, StartsAt}
use Rattle.forwarder.specs.one_net.specs.OneKeeps.{start_bytes}
use Rattle.forwarder.specs.one_net.specs.bounded_input.specs.Input.{TakesInput}
use Rattle.forwarder.specs.one_net.specs.declared.one_end.OneEnd.{OneEnd}
use Rattle.cmd_forward.specs.Answers.{most_input}
use Rattle.cmd_forward.specs.Runs.{HasRun, TookBack, TookNoneBack}
use Rattle.cmd_forward.specs.Starting.{stories_of, terms_bound, terms_of}

-- ---- the terms

at_start_is : (b : Option ReaderBytes)
    → start_bytes (option_and_then (λ stories. slice_get stories 0) (stories_of b))
    (option_and_then (λ stories. slice_get stories 1) (stories_of b)) ≡ b
at_start_is None = refl
at_start_is (Some bytes) = refl

story_is : (b : Option ReaderBytes) (story : Story)
    → option_and_then (λ stories. slice_get stories 0) (stories_of b) ≡ Some story
    → (bytes : ReaderBytes) × (b ≡ Some bytes) × (story ≡ OfBytes bytes.left)
story_is None story told = cc
story_is (Some bytes) story told = (bytes, refl, same story told)
  where
    same : (story : Story) → ◌≡◌ {A = Option Story} (Some (OfBytes bytes.left)) (Some story)
        → story ≡ OfBytes bytes.left
    same story told = cc

some_is : (a f : ℕ) → ◌≡◌ {A = Option ℕ} (Some a) (Some f) → f ≡ a
some_is a f told = cc

pub starts : (bound : Option (Option ℕ)) (i : SourceFacts) → StartsAt (terms_bound bound i) i
starts bound i = record {
  gave = λ g told. some_is i.gave g told;
  faults = λ f told. some_is i.faults f told;
  bytes = at_start_is i.bytes;
  story = λ story told. let s = story_is i.bytes story told in
      (s.0, at_start_is i.bytes ∙ s.1, s.2);
}

-- ---- the input

moved : (a j : Option ReaderBytes) (extra taken : List ℕ) (count : ℕ)
    → MovesOn a (given_by (length extra) count j ++ extra) j
    → HasGiven (end_bytes extra count j) taken → MovesOn a (taken ++ extra) j
moved None None extra taken count moves given = tt
moved (Some a) None extra taken count moves given = absurd moves
moved None (Some j) extra taken count moves given = absurd moves
moved (Some a) (Some j) extra taken count moves given =
    subst (λ (xs : List ℕ). MovesOn (Some a) (xs ++ extra) (Some j)) given moves

pub no_bytes : (t : List ℕ) → length t ≡ 0 → t ≡ []
no_bytes [] none = refl
no_bytes (x ∷ xs) none = absurd (grind (arith, none))

no_extra : (extra : Option ℕ) → (option_to_list extra ≢ [] → ⊥) → option_to_list extra ≡ []
no_extra None none = refl
no_extra (Some byte) none = absurd (none some)
  where
    some : byte ∷ [] ≢ []
    some q = cc

one_extra : (extra : Option ℕ) → option_to_list extra ≢ [] → length (option_to_list extra) ≡ 1
one_extra None some = absurd (some refl)
one_extra (Some byte) some = refl

module _ {S : Type 0} (source : S → SourceFacts) (i : SourceFacts) (end : OneEnd S)
    (keeps : OneEndKeeps source (terms_of i) end) (taken : List ℕ)
    (given : HasGiven (one_end_facts source end).bytes taken)
    (gave : (one_end_facts source end).gave ≡ length taken) where
  pub takes_input : TakesInput most_input (failed_of end) i (source (input_of end)) taken
      (extra_of end)
  takes_input = record {
    moves = moved i.bytes (source (input_of end)).bytes (extra_of end) taken (count_of end)
        (subst (λ (a : Option ReaderBytes). MovesOn a (given_of source end ++ extra_of end)
        (source (input_of end)).bytes)
        (at_start_is i.bytes) keeps.bytes) given;
    gave = omega (
      arith,
      keeps.took i.gave refl,
      gave,
      length-append taken (extra_of end),
    );
    within = omega (arith, keeps.within, keeps.limit, gave);
    behind = λ some. (
      omega (arith, (keeps.too_long some).0, keeps.limit, gave),
      one_extra end.extra some,
    );
    faults = keeps.source_faults i.faults refl;
  }

-- ---- the run

module _ {E S : Type 0} {G : Ghosts E} (tells : E → EndFacts) (keeps : Terms → E → Type 0)
    (source : S → SourceFacts) (i : SourceFacts) where
  -- what a connector of the service leaves of these turns
  abbrev pub Left : ForwardEnd E S G → List (Item (ConnectNote ForwardNote)) → Why
      → ConnectNote ForwardNote → Type 0
  Left end turns why said = ConnectorGone (forward_facts tells source)
      (ForwardKeeps tells keeps source)
      (λ (t : Terms) (service : Forwarder E S) (end : ForwardEnd E S G)
      (had : List (Item ForwardNote)). HasServed tells source service end had) (terms_of i) end
      turns why said

  abbrev pub has_run : (end : ForwardEnd E S G) (turns : List (Item (ConnectNote ForwardNote)))
      (why : Why)
      (said : ConnectNote ForwardNote) (n : NetFacts E) → Left end turns why said
      → TookBack (peer_of end) n
      → HasRun tells most_input i (source (input_of (input_end end))) n
  has_run end turns why said n left took =
      let f = left.has_served.turned.forwarded in
      record {
        end = peer_of end;
        took_back = took;
        failed = failed_of (input_end end);
        taken = f.taken;
        extra = extra_of (input_end end);
        takes = takes_input source i (input_end end) left.kept_end.input f.taken f.given f.gave;
        sent = f.sent;
        rest = f.rest;
        whole = f.whole;
        written = f.written;
      }

  -- one that had no turns took nothing
  pub nothing_taken : (end : ForwardEnd E S G) (why : Why) (said : ConnectNote ForwardNote)
      → Left end [] why said → TakesInput most_input (failed_of (input_end end)) i
      (source (input_of (input_end end))) [] []
  nothing_taken end why said left =
      let f = left.has_served.turned.forwarded in
      let waits : left.now.connected ≡ false =
      ap (λ (p : Progress ForwardNote). p.connected) left.course in
      let u = left.dialled.unused waits in
      let input = left.kept_end.input in
      let none : f.taken ≡ [] = no_bytes f.taken (sym f.gave ∙ u.gave) in
      let none_behind : extra_of (input_end end) ≡ [] =
      no_extra (input_end end).extra (λ some. not_full (input.too_long some).0 input.limit u.gave)
      in
      let takes = takes_input source i (input_end end) input f.taken f.given f.gave in
      subst (λ (xs : List ℕ). TakesInput most_input (failed_of (input_end end)) i
      (source (input_of (input_end end))) [] xs) none_behind
      (subst (λ (xs : List ℕ). TakesInput most_input (failed_of (input_end end)) i
      (source (input_of (input_end end))) xs (extra_of (input_end end))) none takes)
    where
      not_full : {count limit : ℕ} → count ≡ limit → limit ≡ 2 ^ 40 → count ≡ 0 → ⊥
      not_full full is none = omega (arith, full, is, none)

-- ---- the net

none_left : {A B : Type 0} (f : A → B) (xs : List A) → map f xs ≡ [] → xs ≡ []
none_left f [] none = refl
none_left f (x ∷ xs) none = cc

told_so : {A : Type 0} (told : Option A) (a : A) → ((x : A) → told ≡ Some x → x ≡ a)
    → WhereTold (λ x. x ≡ a) told
told_so None a is = tt
told_so (Some x) a is = is x refl

module _ {M S E : Type 0} {N : NetGhosts M E} {G : Ghosts E} (facts : M → NetFacts E)
    (net_keeps : Terms → M → Type 0) (t : Terms) (net : ForwardNet M S E N G)
    (keeps : ForwardNetKeeps facts net_keeps t net)
    (away : map (λ e. e.1) net.turned_away ≡ []) where
  pub took_back : (end : ForwardEnd E S G) → net.retired ≡ (0, end) ∷ []
      → TookBack (peer_of end) (facts (net_within net))
  took_back end is = record {
    retired = told_so (facts (net_within net)).retired ((0, peer_of end) ∷ [])
        (λ ends told. keeps.retired ends told ∙ ap (map (λ e. (e.0, peer_of e.1))) is);
    turned_away = told_so (facts (net_within net)).turned_away []
        (λ ends told. keeps.turned_away ends told
        ∙ ap (map (λ e. peer_of e.1)) (none_left (λ e. e.1) net.turned_away away));
  }

  pub took_none_back : net.retired ≡ [] → TookNoneBack (facts (net_within net))
  took_none_back is = record {
    retired = told_so (facts (net_within net)).retired []
        (λ ends told. keeps.retired ends told ∙ ap (map (λ e. (e.0, peer_of e.1))) is);
    turned_away = told_so (facts (net_within net)).turned_away []
        (λ ends told. keeps.turned_away ends told
        ∙ ap (map (λ e. peer_of e.1)) (none_left (λ e. e.1) net.turned_away away));
  }

-- ---- the waits

-- a net that was asked nothing
pub none_asked : (wait : ℕ) (calls : Option (List Call)) → WhereTold (λ calls. calls ≡ []) calls
    → WhereTold (AskedUntil wait) calls
none_asked wait None none = tt
none_asked wait (Some calls) none = subst (AskedUntil wait) (sym none) tt
