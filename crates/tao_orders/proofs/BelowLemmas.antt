-- The next version may be put, and so may a Stop.
use Rattle.std.proofs.Common.{◌≡◌, ℕ, zero, suc, ◌+◌, ◌≤◌, List, [], ◌∷◌, ◌++◌, arith}
use Rattle.std.proofs.lemmas.List.Elements.{All-append}
use Rattle.tao_orders.specs.Below.{IsBelow, AreBelow}
use Rattle.tao_orders.specs.Works.{number_of, IsNumbered, MayFollow, MayPut}
use Rattle.tao_orders.specs.declared.work.Work.{Work}
use Rattle.tao_orders.specs.declared.work.Work.TheVariants.{Order, Stop}

numbered : (work : Work) (n : ℕ) → 1 ≤ n → number_of work ≡ n → IsNumbered work
numbered (Order order) n some is = omega arith
numbered Stop n some is = tt

follows : (first work : Work) (n : ℕ) → IsBelow n first → number_of work ≡ n → MayFollow first work
follows (Order p) (Order q) n below is = let lt = below.1 in omega arith
follows Stop (Order q) n below is = let ge = below.0 in absurd (omega arith)
follows first Stop n below is = tt

pub next_may : (put : List Work) (work : Work) (n : ℕ) → 1 ≤ n → number_of work ≡ n → AreBelow n put → MayPut put work
next_may put work n some is below = (numbered work n some is, λ k d lt. follows _ work n (below k d lt) is)

pub stop_may : (put : List Work) → MayPut put Stop
stop_may put = (tt, λ k d lt. tt)

pub below_more : (put : List Work) (work : Work) (n : ℕ) → 1 ≤ n → number_of work ≡ n → AreBelow n put → AreBelow (n + 1) (put ++ work ∷ [])
below_more put work n some is below = All-append (IsBelow (n + 1)) put (work ∷ []) (below_up put n below) (last work n some is)
  where
    below_up : (put : List Work) (n : ℕ) → AreBelow n put → AreBelow (n + 1) put
    below_up put n below k d lt = let b = below k d lt in let up = b.1 in (b.0, omega arith)

    last : (work : Work) (n : ℕ) → 1 ≤ n → number_of work ≡ n → AreBelow (n + 1) (work ∷ [])
    last work n some is zero d lt = (omega arith, omega arith)
    last work n some is (suc k) d lt = absurd (omega arith)

pub none_below : (n : ℕ) → AreBelow n []
none_below n k d lt = absurd (omega arith)
