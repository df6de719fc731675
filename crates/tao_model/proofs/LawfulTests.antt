-- Tests that compute whether a record without a Fault is lawful.
use Rattle.std.proofs.Common.{◌≡◌, ℕ, ◌+◌, ◌*◌, ◌^◌, ◌%◌, ◌<◌, Bool, true, false, not, ◌&&◌, List, [], ◌∷◌, map, reverse, length, All, refl, sym, ap, ◌∙◌, nat_eq, nat_lt, nat_le}
use Rattle.std.specs.List.{list_all, range_with_len}
use Rattle.std.proofs.lemmas.Bool.{and_parts, ltb-true, leb-true, eqb-true, true≢false, not-true}
use Rattle.std.proofs.lemmas.List.Elements.{All-nil, All-cons}
use Rattle.tao_base.specs.declared.calls.Op.{Op}
use Rattle.tao_base.specs.declared.calls.Op.TheVariants.{Read, Write, Pad}
use Rattle.tao_base.specs.declared.session.Event.{Event}
use Rattle.tao_base.specs.declared.session.Event.TheVariants.{Arrive, Done, Issue, Acked, Fault}
use Rattle.tao_base.specs.declared.storage.Bucket.{Bucket}
use Rattle.tao_base.specs.declared.storage.Entry.{Entry}
use Rattle.tao_base.specs.Limits.{Shape, IsShape, session_limit, tree_len}
use Rattle.tao_base.specs.Session.{Opening, History}
use Rattle.tao_base.specs.Tree.{node_count}
use Rattle.tao_model.specs.Events.{arrived, dones, issues, buckets_issued, has_fault, is_done, is_acked}
use Rattle.tao_model.specs.Residence.{newest_version}
use Rattle.tao_model.specs.Trace.{nodes_in}
use Rattle.tao_base.specs.Buckets.{IsInForm, Rises}
use Rattle.tao_model.specs.Lawful.{IsInRange, IsOpening, MayFollow, FollowsLawfully, OwesNone, IsLawful, away_on_path, touched_after}
use Rattle.tao_model.specs.Openings.{opening_load}
use Rattle.tao_model.proofs.LoadedOpenings.{opens_so}

all_by : {X : Type 0} (test : X → Bool) (P : X → Type 0) → ((x : X) → test x ≡ true → P x) → (xs : List X) → list_all test xs ≡ true → All P xs
all_by test P sound [] h = All-nil P
all_by test P sound (x ∷ xs) h = let parts = and_parts (test x) (list_all test xs) h in All-cons P x xs (sound x parts.0) (all_by test P sound xs parts.1)

abbrev same_numbers : List ℕ → List ℕ → Bool
same_numbers [] [] = true
same_numbers [] (y ∷ ys) = false
same_numbers (x ∷ xs) [] = false
same_numbers (x ∷ xs) (y ∷ ys) = nat_eq x y && same_numbers xs ys

numbers_by : (xs ys : List ℕ) → same_numbers xs ys ≡ true → xs ≡ ys
numbers_by [] [] h = refl
numbers_by [] (y ∷ ys) h = absurd (true≢false (sym h))
numbers_by (x ∷ xs) [] h = absurd (true≢false (sym h))
numbers_by (x ∷ xs) (y ∷ ys) h = let parts = and_parts (nat_eq x y) (same_numbers xs ys) h in
    ap (λ n. n ∷ xs) (eqb-true x y parts.0) ∙ ap (λ l. y ∷ l) (numbers_by xs ys parts.1)

abbrev rises_test : ℕ → List Entry → Bool
rises_test k [] = true
rises_test k (e ∷ es) = nat_le k e.id && rises_test (e.id + 1) es

rises_by : (k : ℕ) (es : List Entry) → rises_test k es ≡ true → Rises k es
rises_by k [] h = tt
rises_by k (e ∷ es) h = let parts = and_parts (nat_le k e.id) (rises_test (e.id + 1) es) h in (leb-true k e.id parts.0, rises_by (e.id + 1) es parts.1)

-- ---- buckets, operations, shapes and openings

abbrev form_test : Shape → Bucket → Bool
form_test s b = nat_le 1 b.node && (nat_le b.node (node_count s.l) && (nat_le (length b.entries) s.z && (rises_test 0 b.entries
    && (list_all (λ entry. nat_lt entry.id s.n) b.entries && list_all (λ entry. nat_eq (length entry.value) s.b) b.entries))))

pub form_by : (s : Shape) (b : Bucket) → form_test s b ≡ true → IsInForm s b
form_by s b h =
    let p = and_parts (nat_le 1 b.node) _ h in
    let q = and_parts (nat_le b.node (node_count s.l)) _ p.1 in
    let r = and_parts (nat_le (length b.entries) s.z) _ q.1 in
    let t = and_parts (rises_test 0 b.entries) _ r.1 in
    let u = and_parts (list_all (λ entry. nat_lt entry.id s.n) b.entries) _ t.1 in
    record {
      low = leb-true 1 b.node p.0;
      high = leb-true b.node (node_count s.l) q.0;
      entries = record {
        few = leb-true (length b.entries) s.z r.0;
        rising = rises_by 0 b.entries t.0;
        ids = all_by (λ entry. nat_lt entry.id s.n) (λ entry. entry.id < s.n) (λ entry k. ltb-true entry.id s.n k) b.entries u.0;
        values = all_by (λ entry. nat_eq (length entry.value) s.b) (λ entry. length entry.value ≡ s.b) (λ entry k. eqb-true (length entry.value) s.b k) b.entries u.1;
      };
    }

abbrev op_test : Shape → Op → Bool
op_test s (Read id) = nat_lt id s.n
op_test s (Write id value) = nat_lt id s.n && nat_eq (length value) s.b
op_test s Pad = true

op_by : (s : Shape) (op : Op) → op_test s op ≡ true → IsInRange s op
op_by s (Read id) h = ltb-true id s.n h
op_by s (Write id value) h = let parts = and_parts (nat_lt id s.n) (nat_eq (length value) s.b) h in (ltb-true id s.n parts.0, eqb-true (length value) s.b parts.1)
op_by s Pad h = tt

abbrev shape_test : Shape → Bool
shape_test s = nat_le 1 s.l && (nat_le s.l 16 && (nat_le 1 s.z && (nat_le s.z 8 && (nat_le 4 s.b && (nat_le s.b 4096 && (nat_eq (s.b % 4) 0
    && (nat_le 1 s.n && (nat_le s.n (s.z * 2 ^ s.l) && (nat_le 1 s.k && (nat_le s.k 64 && nat_le (tree_len s) (2 ^ 29)))))))))))

shape_by : (s : Shape) → shape_test s ≡ true → IsShape s
shape_by s h =
    let a = and_parts (nat_le 1 s.l) _ h in
    let b = and_parts (nat_le s.l 16) _ a.1 in
    let c = and_parts (nat_le 1 s.z) _ b.1 in
    let d = and_parts (nat_le s.z 8) _ c.1 in
    let e = and_parts (nat_le 4 s.b) _ d.1 in
    let f = and_parts (nat_le s.b 4096) _ e.1 in
    let g = and_parts (nat_eq (s.b % 4) 0) _ f.1 in
    let i = and_parts (nat_le 1 s.n) _ g.1 in
    let j = and_parts (nat_le s.n (s.z * 2 ^ s.l)) _ i.1 in
    let k = and_parts (nat_le 1 s.k) _ j.1 in
    let l = and_parts (nat_le s.k 64) _ k.1 in
    record {
      height_low = leb-true 1 s.l a.0;
      height_high = leb-true s.l 16 b.0;
      bucket_low = leb-true 1 s.z c.0;
      bucket_high = leb-true s.z 8 d.0;
      block_low = leb-true 4 s.b e.0;
      block_high = leb-true s.b 4096 f.0;
      block_words = eqb-true (s.b % 4) 0 g.0;
      count_low = leb-true 1 s.n i.0;
      count_high = leb-true s.n (s.z * 2 ^ s.l) j.0;
      period_low = leb-true 1 s.k k.0;
      period_high = leb-true s.k 64 l.0;
      tree = leb-true (tree_len s) (2 ^ 29) l.1;
    }

abbrev opening_test : Opening → Bool
opening_test o = shape_test o.shape && (nat_eq (length o.words) o.shape.n && (nat_eq (length o.first) o.shape.n
    && list_all (λ value. nat_eq (length value) o.shape.b) o.first))

opening_by : (o : Opening) → opening_test o ≡ true → IsOpening o
opening_by o h =
    let p = and_parts (shape_test o.shape) _ h in
    let q = and_parts (nat_eq (length o.words) o.shape.n) _ p.1 in
    let r = and_parts (nat_eq (length o.first) o.shape.n) _ q.1 in
    record {
      shape = shape_by o.shape p.0;
      words = eqb-true (length o.words) o.shape.n q.0;
      blocks = eqb-true (length o.first) o.shape.n r.0;
      values = all_by (λ value. nat_eq (length value) o.shape.b) (λ value. length value ≡ o.shape.b) (λ value k. eqb-true (length value) o.shape.b k) o.first r.1;
    }

-- ---- events

abbrev owes_test : Opening → List Event → Bool
owes_test o es = nat_lt (dones es) ((issues es + 1) * o.shape.k)

owes_by : (o : Opening) (es : List Event) → owes_test o es ≡ true → OwesNone o es
owes_by o es h = ltb-true (dones es) ((issues es + 1) * o.shape.k) h

-- a Fault fails the test
abbrev may_test : Opening → List Event → Event → Bool
may_test o es (Arrive client op word) = owes_test o es && (nat_lt (arrived es) (session_limit o.shape) && (nat_lt client 64 && op_test o.shape op))
may_test o es (Done arrival taken) = owes_test o es && (nat_lt arrival (arrived es) && (not (is_done es arrival) && (same_numbers (nodes_in taken) (away_on_path o es arrival)
    && (list_all (form_test o.shape) taken && list_all (λ bucket. nat_eq bucket.version (newest_version es bucket.node)) taken))))
may_test o es (Issue version nonce buckets) = nat_eq version (issues es + 1) && (nat_eq (dones es) (version * o.shape.k)
    && (same_numbers (nodes_in buckets) (touched_after o es (issues es * o.shape.k)) && (list_all (form_test o.shape) buckets
    && (list_all (λ bucket. nat_eq bucket.version version) buckets && (nat_eq nonce (node_count o.shape.l + 1 + buckets_issued es)
    && same_numbers (map (λ bucket. bucket.nonce) buckets) (range_with_len nonce (length buckets)))))))
may_test o es (Acked version) = owes_test o es && (nat_lt 0 version && (nat_le version (issues es) && not (is_acked es version)))
may_test o es (Fault cause) = false

may_by : (o : Opening) (es : List Event) (e : Event) → may_test o es e ≡ true → MayFollow o es e
may_by o es (Arrive client op word) h =
    let p = and_parts (owes_test o es) _ h in
    let q = and_parts (nat_lt (arrived es) (session_limit o.shape)) _ p.1 in
    let r = and_parts (nat_lt client 64) (op_test o.shape op) q.1 in
    (owes_by o es p.0, ltb-true (arrived es) (session_limit o.shape) q.0, ltb-true client 64 r.0, op_by o.shape op r.1)
may_by o es (Done arrival taken) h =
    let p = and_parts (owes_test o es) _ h in
    let q = and_parts (nat_lt arrival (arrived es)) _ p.1 in
    let r = and_parts (not (is_done es arrival)) _ q.1 in
    let t = and_parts (same_numbers (nodes_in taken) (away_on_path o es arrival)) _ r.1 in
    let u = and_parts (list_all (form_test o.shape) taken) _ t.1 in (
      owes_by o es p.0,
      record {
        arrived = ltb-true arrival (arrived es) q.0;
        under_way = not-true (is_done es arrival) r.0;
        nodes = numbers_by (nodes_in taken) (away_on_path o es arrival) t.0;
        in_form = all_by (form_test o.shape) (IsInForm o.shape) (form_by o.shape) taken u.0;
        versions = all_by (λ bucket. nat_eq bucket.version (newest_version es bucket.node)) (λ bucket. bucket.version ≡ newest_version es bucket.node)
            (λ bucket k. eqb-true bucket.version (newest_version es bucket.node) k) taken u.1;
      },
    )
may_by o es (Issue version nonce buckets) h =
    let p = and_parts (nat_eq version (issues es + 1)) _ h in
    let q = and_parts (nat_eq (dones es) (version * o.shape.k)) _ p.1 in
    let r = and_parts (same_numbers (nodes_in buckets) (touched_after o es (issues es * o.shape.k))) _ q.1 in
    let t = and_parts (list_all (form_test o.shape) buckets) _ r.1 in
    let u = and_parts (list_all (λ bucket. nat_eq bucket.version version) buckets) _ t.1 in
    let v = and_parts (nat_eq nonce (node_count o.shape.l + 1 + buckets_issued es)) _ u.1 in
    record {
      next = eqb-true version (issues es + 1) p.0;
      due = eqb-true (dones es) (version * o.shape.k) q.0;
      nodes = numbers_by (nodes_in buckets) (touched_after o es (issues es * o.shape.k)) r.0;
      in_form = all_by (form_test o.shape) (IsInForm o.shape) (form_by o.shape) buckets t.0;
      versions = all_by (λ bucket. nat_eq bucket.version version) (λ bucket. bucket.version ≡ version) (λ bucket k. eqb-true bucket.version version k) buckets u.0;
      counts_on = eqb-true nonce (node_count o.shape.l + 1 + buckets_issued es) v.0;
      nonces = numbers_by (map (λ bucket. bucket.nonce) buckets) (range_with_len nonce (length buckets)) v.1;
    }
may_by o es (Acked version) h =
    let p = and_parts (owes_test o es) _ h in
    let q = and_parts (nat_lt 0 version) _ p.1 in
    let r = and_parts (nat_le version (issues es)) (not (is_acked es version)) q.1 in
    (owes_by o es p.0, ltb-true 0 version q.0, leb-true version (issues es) r.0, not-true (is_acked es version) r.1)
may_by o es (Fault cause) h = absurd (true≢false (sym h))

abbrev follows_test : Opening → List Event → Bool
follows_test o [] = opening_test o
follows_test o (e ∷ es) = follows_test o es && (not (has_fault es) && may_test o es e)

follows_by : (o : Opening) (es : List Event) → follows_test o es ≡ true → FollowsLawfully o es
follows_by o [] h = opening_by o h
follows_by o (e ∷ es) h =
    let p = and_parts (follows_test o es) _ h in
    let q = and_parts (not (has_fault es)) (may_test o es e) p.1 in
    (follows_by o es p.0, not-true (has_fault es) q.0, may_by o es e q.1)

-- a record that passes the tests is lawful
pub lawful_by : (h : History) → h.opening.loaded ≡ opening_load h.opening → opening_test h.opening ≡ true → follows_test h.opening (reverse h.events) ≡ true
    → owes_test h.opening (reverse h.events) ≡ true → IsLawful h
lawful_by h loaded is follows owes = record {
  opens = opens_so h.opening (opening_by h.opening is) loaded;
  follows = follows_by h.opening (reverse h.events) follows;
  owes = owes_by h.opening (reverse h.events) owes;
}
