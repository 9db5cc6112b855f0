-- What a tap does to a progress, and what many taps do, one by one and all at once. Assumes nothing.
use Rattle.std.proofs.Common.{◌≡◌, ℕ, zero, suc, ◌+◌, ◌≤◌, ◌⊎◌, List, [], ◌∷◌, ◌++◌, None, Ok, sym, refl, ◌∙◌, add_assoc, zero-add, arith}
use Rattle.std.proofs.lemmas.Bool.Decides.{nat_tests}
use Rattle.staircase.specs.declared.taps.Tap.{Tap}
use Rattle.staircase.specs.declared.taps.Tap.TheVariants.{Seen, NotSeen}
use Rattle.staircase.specs.Progress.{Course, Bounded, progress, progress_in, work_of, judged}
use Rattle.staircase.specs.Moves.{moves, line_after, reversals_from, reversals_in}

-- work numbers give their progress back
pub progress_back : (p : Course) → Bounded 15 p → progress_in (work_of p) ≡ Ok p
progress_back p b =
    grind (arith, nat_tests, b.line_exists, b.short_run, b.few)

judged_line : (t : Tap) (p : Course) → p.line ≤ 13 → (judged t p).line ≤ 13
judged_line t p h = grind (arith, nat_tests)

judged_run : (t : Tap) (p : Course) → p.run ≤ 1 → (judged t p).run ≤ 1
judged_run t p h = grind (arith, nat_tests)

-- a tap adds one reversal at most
pub judged_climbs : (t : Tap) (p : Course) → ((judged t p).reversals ≡ p.reversals) ⊎ ((judged t p).reversals ≡ p.reversals + 1)
judged_climbs t p = grind (arith, nat_tests)

-- a tap keeps the ranges
pub judged_bounded : (t : Tap) (m : ℕ) (p : Course) → Bounded m p → Bounded (m + 1) (judged t p)
judged_bounded t m p b =
    record {
      line_exists = judged_line t p b.line_exists;
      short_run = judged_run t p b.short_run;
      few = grind (arith, nat_tests, b.few);
    }

-- The taps that are still to come, after some progress: a line seen once waits for its second time.
abbrev pending : ℕ → List Tap
pending zero = []
pending (suc n) = Seen ∷ pending n

abbrev pub line_then : Course → List Tap → ℕ
line_then p taps = line_after p.line (moves (pending p.run ++ taps))

abbrev pub reversals_then : Course → List Tap → ℕ
reversals_then p taps = p.reversals + reversals_from p.last_move (moves (pending p.run ++ taps))

pub then_none : (p : Course) (run : ℕ) → p.run ≡ run → run ≤ 1 → (line_then p [] ≡ p.line) × (reversals_then p [] ≡ p.reversals)
then_none p run e h = (grind arith, grind arith)

pub then_more : (t : Tap) (p : Course) (run : ℕ) (taps : List Tap) → p.run ≡ run → run ≤ 1 →
    (line_then (judged t p) taps ≡ line_then p (t ∷ taps)) × (reversals_then (judged t p) taps ≡ reversals_then p (t ∷ taps))
then_more NotSeen p zero taps e h = simp e (refl, add_assoc _ _ _)
then_more NotSeen p (suc zero) taps e h = simp e (refl, add_assoc _ _ _)
then_more Seen p zero taps e h = simp e (refl, refl)
then_more Seen p (suc zero) taps e h = simp e (refl, add_assoc _ _ _)
then_more t p (suc (suc n)) taps e h = absurd (omega arith)

-- tap by tap
abbrev pub after : Course → List Tap → Course
after p [] = p
after p (t ∷ taps) = after (judged t p) taps

pub after_more : (p : Course) (taps : List Tap) (t : Tap) → after p (taps ++ t ∷ []) ≡ judged t (after p taps)
after_more p [] t = refl
after_more p (x ∷ taps) t = after_more (judged x p) taps t

after_then : (p : Course) (taps : List Tap) → p.run ≤ 1 →
    ((after p taps).line ≡ line_then p taps) × ((after p taps).reversals ≡ reversals_then p taps)
after_then p [] h = let n = then_none p p.run refl h in (sym n.0, sym n.1)
after_then p (t ∷ taps) h =
    let n = then_more t p p.run taps refl h in
    let r = after_then (judged t p) taps (judged_run t p h) in
    (r.0 ∙ n.0, r.1 ∙ n.1)

-- from the start, both are what the moves come to
pub after_line : (line : ℕ) (taps : List Tap) → (after (progress line 0 0 None) taps).line ≡ line_after line (moves taps)
after_line line taps = (after_then (progress line 0 0 None) taps (omega arith)).0

pub after_reversals : (line : ℕ) (taps : List Tap) → (after (progress line 0 0 None) taps).reversals ≡ reversals_in (moves taps)
after_reversals line taps = (after_then (progress line 0 0 None) taps (omega arith)).1 ∙ zero-add _
