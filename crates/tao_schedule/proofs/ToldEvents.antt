-- The events that the moves of a record determine, and look-backs on them, without contents. All lists are newest first.
use Rattle.std.proofs.Common.{◌≡◌, ℕ, ◌+◌, ◌*◌, ◌<◌, Bool, true, false, ◌&&◌, ◌||◌, cond, List, [], ◌∷◌, map, is_some, refl, ap, ◌∙◌, subst, arith, inl, inr, ◌⊎◌, nat_eq}
use Rattle.std.proofs.lemmas.Bool.{eq-eqb, ne_eqb, eqb-true}
use Rattle.tao_base.specs.declared.session.Event.{Event}
use Rattle.tao_base.specs.declared.session.Event.TheVariants.{Arrive, Done, Issue, Acked, Fault}
use Rattle.tao_base.specs.declared.storage.Bucket.{Bucket}
use Rattle.tao_base.specs.Limits.{Shape}
use Rattle.tao_base.specs.Session.{Opening}
use Rattle.tao_model.specs.declared.trace.Request.{Request}
use Rattle.tao_model.specs.declared.trace.Request.TheVariants.{Load, Fetch, Store, Again, Scan}
use Rattle.tao_model.specs.Events.{arrived, dones, issues, is_done, is_acked}
use Rattle.tao_model.specs.Residence.{bucket_of, is_issued}
use Rattle.tao_model.specs.Trace.{nodes_in, again_of}
use Rattle.tao_model.specs.Lawful.{FollowsLawfully, OwesNone}
use Rattle.tao_model.specs.Shapes.{steps_of}
use Rattle.tao_model.proofs.FallingPaths.{has}
use Rattle.tao_model.proofs.NewestWrites.{newest_within}
use Rattle.tao_laws.proofs.WrittenNodes.{issued_from}
use Rattle.tao_laws.proofs.RecentNodes.{bucket_in}
use Rattle.tao_schedule.specs.Moves.{Move, Arrives, Serves, Completes, Applies, Acknowledges, nodes_issued, seen, is_served, is_applied}
use Rattle.tao_schedule.specs.Schedules.{Goes, IsSchedule, TakesIn}

-- ---- events without contents

abbrev pub without : Event → Event
without (Arrive client op word) = Arrive client op word
without (Done arrival taken) = Done arrival []
without (Issue version nonce buckets) = Issue version 0 []
without (Acked version) = Acked version
without (Fault cause) = Fault cause

abbrev pub bare : List Event → List Event
bare es = map without es

pub arrived_bare : (es : List Event) → arrived (bare es) ≡ arrived es
arrived_bare [] = refl
arrived_bare (Arrive client op word ∷ es) = ap (λ n. n + 1) (arrived_bare es)
arrived_bare (Done arrival taken ∷ es) = arrived_bare es
arrived_bare (Issue version nonce buckets ∷ es) = arrived_bare es
arrived_bare (Acked version ∷ es) = arrived_bare es
arrived_bare (Fault cause ∷ es) = arrived_bare es

pub dones_bare : (es : List Event) → dones (bare es) ≡ dones es
dones_bare [] = refl
dones_bare (Arrive client op word ∷ es) = dones_bare es
dones_bare (Done arrival taken ∷ es) = ap (λ n. n + 1) (dones_bare es)
dones_bare (Issue version nonce buckets ∷ es) = dones_bare es
dones_bare (Acked version ∷ es) = dones_bare es
dones_bare (Fault cause ∷ es) = dones_bare es

pub issues_bare : (es : List Event) → issues (bare es) ≡ issues es
issues_bare [] = refl
issues_bare (Arrive client op word ∷ es) = issues_bare es
issues_bare (Done arrival taken ∷ es) = issues_bare es
issues_bare (Issue version nonce buckets ∷ es) = ap (λ n. n + 1) (issues_bare es)
issues_bare (Acked version ∷ es) = issues_bare es
issues_bare (Fault cause ∷ es) = issues_bare es

pub done_bare : (es : List Event) (i : ℕ) → is_done (bare es) i ≡ is_done es i
done_bare [] i = refl
done_bare (Arrive client op word ∷ es) i = done_bare es i
done_bare (Done arrival taken ∷ es) i = ap (λ t. nat_eq arrival i || t) (done_bare es i)
done_bare (Issue version nonce buckets ∷ es) i = done_bare es i
done_bare (Acked version ∷ es) i = done_bare es i
done_bare (Fault cause ∷ es) i = done_bare es i

pub acked_bare : (es : List Event) (v : ℕ) → is_acked (bare es) v ≡ is_acked es v
acked_bare [] v = refl
acked_bare (Arrive client op word ∷ es) v = acked_bare es v
acked_bare (Done arrival taken ∷ es) v = acked_bare es v
acked_bare (Issue version nonce buckets ∷ es) v = acked_bare es v
acked_bare (Acked version ∷ es) v = ap (λ t. nat_eq version v || t) (acked_bare es v)
acked_bare (Fault cause ∷ es) v = acked_bare es v

pub steps_bare : (es : List Event) → steps_of (bare es) ≡ steps_of es
steps_bare [] = refl
steps_bare (Arrive client op word ∷ es) = rw (steps_bare es) refl
steps_bare (Done arrival taken ∷ es) = rw (steps_bare es) refl
steps_bare (Issue version nonce buckets ∷ es) = rw (steps_bare es) refl
steps_bare (Acked version ∷ es) = rw (steps_bare es) refl
steps_bare (Fault cause ∷ es) = steps_bare es

-- ---- events rebuilt from the moves

-- the events with one more Done, and the write-back if it is due
abbrev pub taking : Shape → ℕ → List Event → List Event
taking s fetch es = cond (nat_eq (dones es + 1) ((issues es + 1) * s.k)) (Issue (issues es + 1) 0 [] ∷ Done fetch [] ∷ es) (Done fetch [] ∷ es)

abbrev pub told : Shape → List Move → List Event
told s [] = []
told s (Arrives client op word ∷ ms) = Arrive client op word ∷ told s ms
told s (Serves fetch served ∷ ms) = told s ms
told s (Completes fetch ∷ ms) = taking s fetch (told s ms)
told s (Applies version applied ∷ ms) = told s ms
told s (Acknowledges version ∷ ms) = Acked version ∷ told s ms

-- a Done and its write-back, without contents
taking_bare : (o : Opening) (es : List Event) (fetch : ℕ) (now : List Event) → TakesIn o es fetch now → FollowsLawfully o now → bare now ≡ taking o.shape fetch (bare es)
taking_bare o es fetch now t f = either t.2
  where
    either : ((now ≡ Done fetch t.1 ∷ es) ⊎ ((version : ℕ) × (nonce : ℕ) × (buckets : List Bucket) × (now ≡ Issue version nonce buckets ∷ Done fetch t.1 ∷ es)))
        → bare now ≡ taking o.shape fetch (bare es)
    either (inl is) =
        let none : dones es + 1 < (issues es + 1) * o.shape.k = subst (OwesNone o) is t.0 in
        ap bare is ∙ rw (dones_bare es, issues_bare es, ne_eqb (dones es + 1) ((issues es + 1) * o.shape.k) (λ same. omega arith)) refl
    either (inr (version, nonce, buckets, is)) =
        let follows = subst (FollowsLawfully o) is f in
        let next : version ≡ issues es + 1 = follows.2.next in
        let due : dones es + 1 ≡ (issues es + 1) * o.shape.k = follows.2.due ∙ ap (λ v. v * o.shape.k) next in
        ap bare is ∙ rw (dones_bare es, issues_bare es, eq-eqb (dones es + 1) ((issues es + 1) * o.shape.k) due) (ap (λ v. Issue v 0 [] ∷ Done fetch [] ∷ bare es) next)

follows_before : (o : Opening) (es : List Event) (fetch : ℕ) (now : List Event) → TakesIn o es fetch now → FollowsLawfully o now → FollowsLawfully o es
follows_before o es fetch now t f = either t.2
  where
    either : ((now ≡ Done fetch t.1 ∷ es) ⊎ ((version : ℕ) × (nonce : ℕ) × (buckets : List Bucket) × (now ≡ Issue version nonce buckets ∷ Done fetch t.1 ∷ es))) → FollowsLawfully o es
    either (inl is) = (subst (FollowsLawfully o) is f).0
    either (inr (version, nonce, buckets, is)) = (subst (FollowsLawfully o) is f).0.0

pub goes_lawful : (o : Opening) (ms : List Move) (es : List Event) (m : Move) (now : List Event) → Goes o ms es m now → FollowsLawfully o now → FollowsLawfully o es
unfolding Goes
goes_lawful o ms es (Arrives client op word) now g f = (subst (FollowsLawfully o) g.1 f).0
goes_lawful o ms es (Serves fetch served) now g f = subst (FollowsLawfully o) g.3 f
goes_lawful o ms es (Completes fetch) now g f = follows_before o es fetch now g.2 f
goes_lawful o ms es (Applies version applied) now g f = subst (FollowsLawfully o) g.2 f
goes_lawful o ms es (Acknowledges version) now g f = (subst (FollowsLawfully o) g.2 f).0

goes_told : (o : Opening) (ms : List Move) (es : List Event) (m : Move) (now : List Event) → Goes o ms es m now → FollowsLawfully o now → bare es ≡ told o.shape ms
    → bare now ≡ told o.shape (m ∷ ms)
unfolding Goes
goes_told o ms es (Arrives client op word) now g f ih = ap bare g.1 ∙ ap (λ l. Arrive client op word ∷ l) ih
goes_told o ms es (Serves fetch served) now g f ih = ap bare g.3 ∙ ih
goes_told o ms es (Completes fetch) now g f ih = taking_bare o es fetch now g.2 f ∙ ap (taking o.shape fetch) ih
goes_told o ms es (Applies version applied) now g f ih = ap bare g.2 ∙ ih
goes_told o ms es (Acknowledges version) now g f ih = ap bare g.2 ∙ ap (λ l. Acked version ∷ l) ih

pub bare_is_told : (o : Opening) (ms : List Move) (es : List Event) → IsSchedule o ms es → FollowsLawfully o es → bare es ≡ told o.shape ms
unfolding IsSchedule
bare_is_told o [] es s f = ap bare s
bare_is_told o (m ∷ ms) es s f = goes_told o ms s.0 m es s.2 f (bare_is_told o ms s.0 s.1 (goes_lawful o ms s.0 m es s.2 f))

-- ---- events rebuilt from the moves as the server sees them

-- the look-backs that need neither operation nor word
pub record SeenSame (es others : List Event) : Type 0 where
  pub arrived : arrived es ≡ arrived others
  pub dones : dones es ≡ dones others
  pub issues : issues es ≡ issues others
  pub done : (i : ℕ) → is_done es i ≡ is_done others i
  pub acked : (v : ℕ) → is_acked es v ≡ is_acked others v
  pub steps : steps_of es ≡ steps_of others

seen_taking : (s : Shape) (fetch : ℕ) (es others : List Event) → SeenSame es others → SeenSame (taking s fetch es) (taking s fetch others)
seen_taking s fetch es others h = rw (h.dones, h.issues) (either (nat_eq (dones others + 1) ((issues others + 1) * s.k)))
  where
    either : (t : Bool) → SeenSame (cond t (Issue (issues others + 1) 0 [] ∷ Done fetch [] ∷ es) (Done fetch [] ∷ es))
        (cond t (Issue (issues others + 1) 0 [] ∷ Done fetch [] ∷ others) (Done fetch [] ∷ others))
    either true = record {
      arrived = h.arrived;
      dones = ap (λ n. n + 1) h.dones;
      issues = ap (λ n. n + 1) h.issues;
      done = λ i. ap (λ t. nat_eq fetch i || t) (h.done i);
      acked = h.acked;
      steps = rw (h.steps) refl;
    }
    either false = record {
      arrived = h.arrived;
      dones = ap (λ n. n + 1) h.dones;
      issues = h.issues;
      done = λ i. ap (λ t. nat_eq fetch i || t) (h.done i);
      acked = h.acked;
      steps = rw (h.steps) refl;
    }

pub seen_told : (s : Shape) (ms : List Move) → SeenSame (told s (map seen ms)) (told s ms)
seen_told s [] = record { arrived = refl; dones = refl; issues = refl; done = λ i. refl; acked = λ v. refl; steps = refl }
seen_told s (Arrives client op word ∷ ms) =
    let h = seen_told s ms in
    record { arrived = ap (λ n. n + 1) h.arrived; dones = h.dones; issues = h.issues; done = h.done; acked = h.acked; steps = rw (h.steps) refl }
seen_told s (Serves fetch served ∷ ms) = seen_told s ms
seen_told s (Completes fetch ∷ ms) = seen_taking s fetch (told s (map seen ms)) (told s ms) (seen_told s ms)
seen_told s (Applies version applied ∷ ms) = seen_told s ms
seen_told s (Acknowledges version ∷ ms) =
    let h = seen_told s ms in
    record { arrived = h.arrived; dones = h.dones; issues = h.issues; done = h.done; acked = λ v. ap (λ t. nat_eq version v || t) (h.acked v); steps = rw (h.steps) refl }

pub served_seen : (ms : List Move) (i node : ℕ) → is_served (map seen ms) i node ≡ is_served ms i node
served_seen [] i node = refl
served_seen (Arrives client op word ∷ ms) i node = served_seen ms i node
served_seen (Serves fetch served ∷ ms) i node = ap (λ t. (nat_eq fetch i && nat_eq served node) || t) (served_seen ms i node)
served_seen (Completes fetch ∷ ms) i node = served_seen ms i node
served_seen (Applies version applied ∷ ms) i node = served_seen ms i node
served_seen (Acknowledges version ∷ ms) i node = served_seen ms i node

pub applied_seen : (ms : List Move) (v node : ℕ) → is_applied (map seen ms) v node ≡ is_applied ms v node
applied_seen [] v node = refl
applied_seen (Arrives client op word ∷ ms) v node = applied_seen ms v node
applied_seen (Serves fetch served ∷ ms) v node = applied_seen ms v node
applied_seen (Completes fetch ∷ ms) v node = applied_seen ms v node
applied_seen (Applies version applied ∷ ms) v node = ap (λ t. (nat_eq version v && nat_eq applied node) || t) (applied_seen ms v node)
applied_seen (Acknowledges version ∷ ms) v node = applied_seen ms v node

-- ---- the nodes of a write-back

abbrev pub nodes_again : List Request → List ℕ
nodes_again [] = []
nodes_again (Load nodes ∷ rest) = []
nodes_again (Fetch i leaf ∷ rest) = []
nodes_again (Store version nonce nodes ∷ rest) = nodes
nodes_again (Again version nonce nodes ∷ rest) = nodes
nodes_again (Scan ∷ rest) = []

pub nodes_are_again : (es : List Event) (v : ℕ) → nodes_issued es v ≡ nodes_again (again_of es v)
nodes_are_again [] v = refl
nodes_are_again (Arrive client op word ∷ es) v = nodes_are_again es v
nodes_are_again (Done arrival taken ∷ es) v = nodes_are_again es v
nodes_are_again (Issue version nonce buckets ∷ es) v = either (nat_eq version v) (nodes_are_again es v)
  where
    either : (t : Bool) → nodes_issued es v ≡ nodes_again (again_of es v)
        → cond t (nodes_in buckets) (nodes_issued es v) ≡ nodes_again (cond t (Again version nonce (nodes_in buckets) ∷ []) (again_of es v))
    either true ih = refl
    either false ih = ih
nodes_are_again (Acked version ∷ es) v = nodes_are_again es v
nodes_are_again (Fault cause ∷ es) v = nodes_are_again es v

or_none : (t : Bool) → (t || false) ≡ t
or_none true = refl
or_none false = refl

-- a version has exactly these nodes
pub issued_has : (o : Opening) (es : List Event) (v node : ℕ) → FollowsLawfully o es → is_issued es v node ≡ has node (nodes_issued es v)
issued_has o [] v node f = refl
issued_has o (Arrive client op word ∷ es) v node f = issued_has o es v node f.0
issued_has o (Done arrival taken ∷ es) v node f = issued_has o es v node f.0
issued_has o (Issue version nonce buckets ∷ es) v node f = either (nat_eq version v) refl (is_issued es v node) refl (issued_has o es v node f.0)
  where
    either : (t : Bool) → nat_eq version v ≡ t → (earlier : Bool) → is_issued es v node ≡ earlier → is_issued es v node ≡ has node (nodes_issued es v)
        → ((t && is_some (bucket_of node buckets)) || is_issued es v node) ≡ has node (cond t (nodes_in buckets) (nodes_issued es v))
    either false at earlier is ih = ih
    either true at true is ih =
        let same : version ≡ v = eqb-true version v at in
        let next : version ≡ issues es + 1 = f.2.next in
        let high = (issued_from o es v node f.0 is).1 in
        let within = newest_within o es node f.0 in
        absurd (omega arith)
    either true at false is ih = rw is (rw (bucket_in node buckets) (or_none (has node (nodes_in buckets))))
issued_has o (Acked version ∷ es) v node f = issued_has o es v node f.0
issued_has o (Fault cause ∷ es) v node f = issued_has o es v node f.0
