-- Buckets and records that the definitions refuse, beside those that they allow.
use Rattle.std.specs.Prelude.{ℕ, List, [], ◌∷◌, ◌++◌, take}
use Rattle.tao_base.specs.declared.calls.Op.TheVariants.{Read}
use Rattle.tao_base.specs.declared.parameters.Form.TheVariants.{One}
use Rattle.tao_base.specs.declared.session.Cause.TheVariants.{Link}
use Rattle.tao_base.specs.declared.session.Event.{Event}
use Rattle.tao_base.specs.declared.session.Event.TheVariants.{Arrive, Done, Issue, Acked, Fault}
use Rattle.tao_base.specs.declared.storage.Entry.{Entry}
use Rattle.tao_base.specs.Limits.{shape}
use Rattle.tao_base.specs.Session.{History}
use Rattle.tao_base.specs.Buckets.{IsInForm}
use Rattle.tao_model.specs.Lawful.{IsLawful}
use Rattle.tao_model.specs.Worked.{bucket, entry, opening, history, zero, all_a, one_read, no_write_back_before_the_period}

-- a node with these entries is in form in a tree of three nodes, for two of three blocks of four bytes each
abbrev pub HasForm : ℕ → List Entry → Type 0
HasForm node entries = IsInForm (shape 1 2 4 3 1 One) (bucket node 0 0 entries)

-- A bucket is in form up to each limit, and not beyond.
pub record FormsAreTold : Type 0 where
  pub full : HasForm 3 (entry 1 zero ∷ entry 2 all_a ∷ [])
  pub falls : HasForm 3 (entry 2 all_a ∷ entry 1 zero ∷ []) → ⊥
  pub twice : HasForm 3 (entry 1 zero ∷ entry 1 zero ∷ []) → ⊥
  pub many : HasForm 3 (entry 0 zero ∷ entry 1 zero ∷ entry 2 zero ∷ []) → ⊥
  pub no_block : HasForm 3 (entry 3 zero ∷ []) → ⊥
  pub short : HasForm 3 (entry 0 (0 ∷ 0 ∷ 0 ∷ []) ∷ []) → ⊥
  pub stash : HasForm 0 [] → ⊥
  pub past : HasForm 4 [] → ⊥

-- A fetch of a leaf that has both blocks, done with these entries there.
abbrev pub both_taken : List Entry → History
both_taken entries = history
    (opening (shape 1 2 4 2 2 One) (1 ∷ 1 ∷ []) (zero ∷ zero ∷ [])
    (bucket 1 0 1 [] ∷ bucket 2 0 2 [] ∷ bucket 3 0 3 (entry 0 zero ∷ entry 1 zero ∷ []) ∷ []))
    (Arrive 0 (Read 0) 0
    ∷ Done 0 (bucket 1 0 1 [] ∷ bucket 3 0 3 entries ∷ []) ∷ [])

-- the one read, up to its Done, and then these events
abbrev pub one_fetched : List Event → History
one_fetched rest = history one_read.opening (take 2 one_read.events ++ rest)

-- the one write-back, with this version and this first nonce
abbrev pub one_written : ℕ → ℕ → ℕ → Event
one_written version first second = Issue version first (bucket 1 version first (entry 0 zero ∷ []) ∷ bucket 3 version second [] ∷ [])

-- the first fetch of a period of three, and then these events
abbrev pub one_of_three : List Event → History
one_of_three rest = history no_write_back_before_the_period.opening (take 2 no_write_back_before_the_period.events ++ rest)

-- Records that break a rule, beside those that keep it.
pub record RefusalsAreTold : Type 0 where
  pub rises : IsLawful (both_taken (entry 0 zero ∷ entry 1 zero ∷ []))
  pub falls : IsLawful (both_taken (entry 1 zero ∷ entry 0 zero ∷ [])) → ⊥
  pub pays : IsLawful (one_fetched (one_written 1 4 5 ∷ []))
  pub owes : IsLawful (one_fetched []) → ⊥
  pub pays_late : IsLawful (one_fetched (Arrive 0 (Read 0) 0 ∷ one_written 1 4 5 ∷ [])) → ⊥
  pub skips_a_version : IsLawful (one_fetched (one_written 2 4 5 ∷ [])) → ⊥
  pub nonce_again : IsLawful (one_fetched (one_written 1 3 4 ∷ [])) → ⊥
  pub same_nonce : IsLawful (one_fetched (one_written 1 4 4 ∷ [])) → ⊥
  pub before_its_period : IsLawful (one_of_three (Issue 1 4 (bucket 1 1 4 [] ∷ bucket 2 1 5 (entry 0 zero ∷ []) ∷ []) ∷ [])) → ⊥
  pub acknowledged_early : IsLawful (one_of_three (Acked 1 ∷ [])) → ⊥
  pub done_again : IsLawful (one_of_three (Done 0 [] ∷ [])) → ⊥
  pub done_before_arrival : IsLawful (one_of_three (Done 1 [] ∷ [])) → ⊥
  pub ends_with_a_fault : IsLawful (one_of_three (Fault (Link 0) ∷ []))
  pub goes_on_after_a_fault : IsLawful (one_of_three (Fault (Link 0) ∷ Arrive 0 (Read 0) 0 ∷ [])) → ⊥
