-- One more step of a script, and one more load.
use Rattle.std.proofs.Common.{◌≡◌, ℕ, ◌+◌, ◌<◌, List, [], ◌∷◌, ◌++◌, length, take, get_or, refl, sym, ap, ◌∙◌, subst, arith}
use Rattle.std.proofs.lemmas.List.{take_more}
use Rattle.tao_base.specs.Session.{History}
use Rattle.tao_text.specs.declared.script.Step.{Step}
use Rattle.tao_plain_desk.specs.Whole.{DeskState, words_left, arrivals_of, IsSound}
use Rattle.taostore.specs.Playing.{PlaysStep, PlaysSteps}

-- where the desk is after some of the steps
pub record IsAt (steps : List Step) (i : ℕ) (old new : DeskState) : Type 0 where
  pub played : PlaysSteps old.tape (take i steps) old.history new.history
  pub tape : new.tape ≡ old.tape
  pub opening : new.history.opening ≡ old.history.opening
  pub words : words_left new + i ≡ words_left old
  pub count : arrivals_of new.history ≡ arrivals_of old.history + i
  pub sound : IsSound new.history

pub plays_more : (tape : List ℕ) (steps : List Step) (step : Step) (old mid new : History) → PlaysSteps tape steps old mid → PlaysStep tape step.what mid new → PlaysSteps tape (steps ++ step ∷ []) old new
plays_more tape [] step old mid new same one = (new, subst (λ h. PlaysStep tape step.what h new) same one, refl)
plays_more tape (first ∷ rest) step old mid new p one = (p.0, p.1, plays_more tape rest step p.0 mid new p.2 one)

pub step_more : (steps : List Step) (i : ℕ) (step : Step) (old mid new : DeskState) → i < length steps → step ≡ get_or steps i step → IsAt steps i old mid
    → PlaysStep mid.tape step.what mid.history new.history → new.history.opening ≡ mid.history.opening → new.tape ≡ mid.tape → words_left new + 1 ≡ words_left mid
    → arrivals_of new.history ≡ arrivals_of mid.history + 1 → IsSound new.history → IsAt steps (i + 1) old new
step_more steps i step old mid new within is a one opening tape words count sound =
    let front : take (i + 1) steps ≡ take i steps ++ step ∷ [] = take_more steps i step within ∙ ap (λ s. take i steps ++ s ∷ []) (sym is) in
    let had = a.words in let were = a.count in
    record {
      played = subst (λ l. PlaysSteps old.tape l old.history new.history) (sym front)
          (plays_more old.tape (take i steps) step old.history mid.history new.history a.played (subst (λ t. PlaysStep t step.what mid.history new.history) a.tape one));
      tape = tape ∙ a.tape;
      opening = opening ∙ a.opening;
      words = omega arith;
      count = omega arith;
      sound = sound;
    }
