-- The stages of a measurement, and what one step does in each. Assumes nothing.
use Rattle.std.proofs.Common.{◌≡◌, ℕ, ◌<◌, ◌≤◌, Bool, true, false, eqb, leb, ◌⊎◌, List, [], ◌∷◌, ℤ, None, Ok, Err, Result, sym, refl, ap, ◌∙◌, subst, inl, inr, arith}
use Rattle.std.proofs.lemmas.Bool.{leb-true, leb-false, ne_eqb}
use Rattle.model.specs.declared.faults.Fault.{Fault}
use Rattle.model.specs.declared.threads.Answer.{Answer}
use Rattle.model.specs.declared.threads.Answer.TheVariants.{Done, Got, Fork}
use Rattle.model.specs.declared.threads.Outcome.{Outcome}
use Rattle.model.specs.declared.threads.Request.TheVariants.{Receive, Stop}
use Rattle.model.specs.Runs.{Moment}
use Rattle.staircase.specs.declared.Staircase.{Staircase}
use Rattle.staircase.specs.declared.phases.Phase.TheVariants.{Judge}
use Rattle.staircase.specs.declared.taps.Tap.{Tap}
use Rattle.staircase.specs.Taps.{tap_in}
use Rattle.staircase.specs.Progress.{Course, Bounded, work_of, judged}
use Rattle.staircase.specs.Steps.{means, does, begun, shown, answered, reported, start}
use Rattle.staircase.specs.Laws.{tap_at, tap_handed, emits, is_emit}
use Rattle.staircase.proofs.Judging.{progress_back, judged_climbs, judged_bounded}

-- taps are still wanted; the report is due; the report was given
pub data Stage : Type 0 where
  going due over : Stage

abbrev pub is_due : Stage → Bool
is_due going = false
is_due due = true
is_due over = false

abbrev NotOver : Stage → Type 0
NotOver going = Unit {0}
NotOver due = Unit {0}
NotOver over = ⊥

abbrev pub IsOver : Stage → Type 0
IsOver going = ⊥
IsOver due = ⊥
IsOver over = Unit {0}

-- which stages may come next
abbrev pub Leads : Stage → Stage → Type 0
Leads going k = NotOver k
Leads due k = IsOver k
Leads over k = IsOver k

-- a step keeps a progress, or judges the tap that it hears
pub data Judges (x : Moment) (p q : Course) : Type 0 where
  keeps : tap_at x ≡ [] → q ≡ p → Judges x p q
  judges : (t : Tap) → tap_at x ≡ t ∷ [] → q ≡ judged t p → Judges x p q

module _ (s : Staircase) where
  abbrev pub Placed : Stage → ℕ → Type 0
  Placed going place = (place ≡ 1) ⊎ (place ≡ 2)
  Placed due place = place ≡ 3
  Placed over place = place ≡ 4

  abbrev pub Counted : Stage → ℕ → Type 0
  Counted going reversals = reversals < s.wanted_reversals
  Counted due reversals = reversals ≡ s.wanted_reversals
  Counted over reversals = reversals ≡ s.wanted_reversals

  -- where a thread stands after its first step
  pub record At (k : Stage) (place : ℕ) (w : List ℤ) (p : Course) : Type 0 where
    pub here : Placed k place
    pub is : w ≡ work_of p
    pub fits : Bounded 15 p
    pub count : Counted k p.reversals

  abbrev pub stopped : Course → Outcome
  stopped p = record { place = 4; work = work_of p; write = None; request = Stop }

  -- what comes of a step once no tap is wanted
  abbrev pub Ends : Stage → Course → Outcome → Type 0
  Ends going p o = Unit {0}
  Ends due p o = o ≡ reported s p (work_of p)
  Ends over p o = o ≡ stopped p

  -- what the step of a moment does
  pub record Next (k : Stage) (p : Course) (x : Moment) : Type 0 where
    pub later : Stage
    pub leads : Leads k later
    pub q : Course
    pub tap : Judges x p q
    pub at : At later x.outcome.place x.outcome.work q
    pub emitting : emits x ≡ is_due k
    pub ends : Ends k p x.outcome

  pub start_bounded : Bounded 15 (start s)
  start_bounded = record { line_exists = s.line_exists; short_run = omega arith; few = omega arith }

  -- the machine where a thread is known to stand
  pub stands : {place at : ℕ} {w v : List ℤ} {r : Result Outcome Fault} (cells : List ℤ) (a : Answer) → place ≡ at → w ≡ v →
      means s place w cells a ≡ r → means s at v cells a ≡ r
  stands {place} {at} {w} cells a h i e = ap (λ k. means s at k cells a) (sym i) ∙ ap (λ n. means s n w cells a) (sym h) ∙ e

  pub at_show : (p : Course) (cells : List ℤ) (a : Answer) → Bounded 15 p → means s 1 (work_of p) cells a ≡ Ok (shown s p (work_of p))
  at_show p cells a b = let e = progress_back p b in simp e

  pub at_judge : (p : Course) (cells : List ℤ) (a : Answer) → Bounded 15 p → means s 2 (work_of p) cells a ≡ does s (work_of p) (Judge p) a
  at_judge p cells a b = let e = progress_back p b in simp e

  pub at_report : (p : Course) (cells : List ℤ) (a : Answer) → Bounded 15 p → means s 3 (work_of p) cells a ≡ Ok (reported s p (work_of p))
  at_report p cells a b = let e = progress_back p b in simp e

  -- a step without a tap, to an outcome that is known
  kept : (k later : Stage) (p : Course) (x : Moment) (o : Outcome) → x.outcome ≡ o → Leads k later → tap_at x ≡ [] →
      is_emit o.request ≡ is_due k → Ends k p o → At later o.place o.work p → Next k p x
  kept k later p x o e leads none emit ends at =
      record {
        later = later;
        leads = leads;
        q = p;
        tap = keeps none refl;
        at = subst (λ o. At later o.place o.work p) (sym e) at;
        emitting = ap (λ o. is_emit o.request) e ∙ emit;
        ends = subst (Ends k p) (sym e) ends;
      }

  -- while reversals are wanted a tap keeps the ranges
  pub judged_fits : (p : Course) (t : Tap) → Bounded 15 p → p.reversals < s.wanted_reversals → Bounded 15 (judged t p)
  judged_fits p t b l =
      let few : p.reversals ≤ 14 = omega (arith, s.few_wanted) in
      judged_bounded t 14 p (record { line_exists = b.line_exists; short_run = b.short_run; few = few })

  -- a step that judges a tap
  answers : (p : Course) (x : Moment) (t : Tap) → Bounded 15 p → p.reversals < s.wanted_reversals → tap_at x ≡ t ∷ [] →
      x.outcome ≡ answered s p t → Next going p x
  answers p x t b l tap e = go (leb s.wanted_reversals (judged t p).reversals) refl
    where
      next : (later : Stage) → Leads going later → Placed later x.outcome.place → Counted later (judged t p).reversals → Next going p x
      next later leads here count =
          record {
            later = later;
            leads = leads;
            q = judged t p;
            tap = judges t tap refl;
            at = record { here = here; is = ap (λ o. o.work) e; fits = judged_fits p t b l; count = count };
            emitting = ap (λ o. is_emit o.request) e;
            ends = tt;
          }

      go : (enough : Bool) → leb s.wanted_reversals (judged t p).reversals ≡ enough → Next going p x
      go true y =
          let many = leb-true _ _ y in
          next due tt (ap (λ o. o.place) e ∙ simp y)
          (elim (judged_climbs t p) [ inl c ↦ omega arith | inr c ↦ omega arith ])
      go false y = next going tt (inl (ap (λ o. o.place) e ∙ simp y)) (leb-false _ _ y)

  hears : (p : Course) (x : Moment) → Bounded 15 p → p.reversals < s.wanted_reversals → x.place ≡ 2 →
      does s (work_of p) (Judge p) x.answer ≡ Ok x.outcome → Next going p x
  hears p x b l at e = go x.answer refl e
    where
      waits : Outcome
      waits = record { place = 2; work = work_of p; write = None; request = Receive }

      no_tap : (a : Answer) → x.answer ≡ a → tap_handed a ≡ [] → ◌≡◌ {A = Result Outcome Fault} (Ok waits) (Ok x.outcome) → Next going p x
      no_tap a i none e =
          kept going going p x waits (cc) tt (simp (at, i, none)) refl tt (record { here = inr refl; is = refl; fits = b; count = l })

      tap : (v : ℤ) (r : Result Tap Fault) → x.answer ≡ Got v → tap_in v ≡ r → does s (work_of p) (Judge p) (Got v) ≡ Ok x.outcome → Next going p x
      tap v (Ok t) i j e = answers p x t b l (simp (at, i, j)) (let f = simp j at e in cc)
      tap v (Err f) i j e = let z = simp j at e in absurd (grind arith)

      go : (a : Answer) → x.answer ≡ a → does s (work_of p) (Judge p) a ≡ Ok x.outcome → Next going p x
      go Done i e = no_tap Done i refl e
      go (Fork f) i e = no_tap (Fork f) i refl e
      go (Got v) i e = tap v (tap_in v) i refl e

  no_tap_at : (x : Moment) (place : ℕ) → x.place ≡ place → (place ≡ 2 → ⊥) → tap_at x ≡ []
  no_tap_at x place e h = let n : eqb x.place 2 ≡ false = ne_eqb _ _ (λ z. h (sym e ∙ z)) in simp n

  -- the first step, and every later one
  pub first : (w : List ℤ) (x : Moment) → x.place ≡ 0 → means s 0 w x.cells x.answer ≡ Ok x.outcome → Next going (start s) x
  first w x at e =
      kept going going (start s) x (begun s) (cc) tt (no_tap_at x 0 at (λ z. omega arith)) refl tt
      (record { here = inl refl; is = refl; fits = start_bounded; count = s.some_wanted })

  pub step : (k : Stage) {place : ℕ} {w : List ℤ} (p : Course) (x : Moment) → At k place w p → x.place ≡ place →
      means s place w x.cells x.answer ≡ Ok x.outcome → Next k p x
  step going p x a at e = elim a.here [
    | inl h ↦
        let f = sym (at_show p x.cells x.answer a.fits) ∙ stands x.cells x.answer h a.is e in
        kept going going p x (shown s p (work_of p)) (cc) tt (no_tap_at x 1 (at ∙ h) (λ z. omega arith)) refl tt
        (record { here = inr refl; is = refl; fits = a.fits; count = a.count })
    | inr h ↦ hears p x a.fits a.count (at ∙ h) (sym (at_judge p x.cells x.answer a.fits) ∙ stands x.cells x.answer h a.is e)
  ]
  step due p x a at e =
      let f = sym (at_report p x.cells x.answer a.fits) ∙ stands x.cells x.answer a.here a.is e in
      kept due over p x (reported s p (work_of p)) (cc) tt (no_tap_at x 3 (at ∙ a.here) (λ z. omega arith)) refl refl
      (record { here = refl; is = refl; fits = a.fits; count = a.count })
  step over p x a at e =
      let f = stands x.cells x.answer a.here a.is e in
      kept over over p x (stopped p) (cc) tt (no_tap_at x 4 (at ∙ a.here) (λ z. omega arith)) refl refl
      (record { here = refl; is = refl; fits = a.fits; count = a.count })
