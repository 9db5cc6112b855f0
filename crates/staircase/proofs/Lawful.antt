-- The laws of a staircase's runs. Assumes nothing.
use Rattle.std.proofs.Common.{◌≡◌, ℕ, Bool, true, false, ◌⊎◌, List, [], ◌∷◌, ◌++◌, ℤ, pos, ◌+ℤ◌, ◌≤ℤ◌, ◌<ℤ◌, Some, Ok, Err, Result, sym, refl, ap, ◌∙◌, inl, inr, zero-add, arith}
use Rattle.std.proofs.lemmas.Int.{ints}
use Rattle.std.proofs.lemmas.Bool.{le-leb, lt-leb, false≢true}
use Rattle.std.specs.List.{All}
use Rattle.std.proofs.lemmas.List.Elements.{All-nil, All-cons}
use Rattle.model.specs.declared.faults.Fault.{Fault}
use Rattle.model.specs.declared.threads.Answer.{Answer}
use Rattle.model.specs.declared.threads.Answer.TheVariants.{Done, Got, Fork}
use Rattle.model.specs.declared.threads.Request.TheVariants.{Emit}
use Rattle.model.specs.Runs.{Moment, Run, place_after, work_after}
use Rattle.staircase.specs.declared.Staircase.{Staircase}
use Rattle.staircase.specs.declared.phases.Phase.TheVariants.{Judge}
use Rattle.staircase.specs.declared.taps.Tap.{Tap}
use Rattle.staircase.specs.Taps.{tap_in}
use Rattle.staircase.specs.Progress.{Course, Bounded, work_of, judged}
use Rattle.staircase.specs.Steps.{means, does, start}
use Rattle.staircase.specs.Laws.{line_in, reversals_of, tap_at, taps_in, emits, is_emit, reached, just_reached, Climbs, OnChart, OnlyStops, Lawful}
use Rattle.staircase.proofs.Judging.{judged_climbs, line_then, reversals_then, then_none, then_more}
use Rattle.staircase.proofs.Stages.{Stage, going, due, over, is_due, IsOver, Leads, Judges, keeps, judges, At, Next, start_bounded, first, step, stands, at_show, at_judge, at_report}

line_is : {w : List ℤ} (p : Course) → w ≡ work_of p → line_in w ≡ pos p.line
line_is p e = ap line_in e

reversals_are : {w : List ℤ} (p : Course) → w ≡ work_of p → reversals_of w ≡ pos p.reversals
reversals_are p e = ap reversals_of e

module _ (s : Staircase) where
  -- only a message that is no tap is a fault, and only while taps are wanted
  ByMessage : List ℤ → Answer → Fault → Type 0
  ByMessage w a f = (v : ℤ) × (a ≡ Got v) × (tap_in v ≡ Err f) × (reversals_of w <ℤ pos s.wanted_reversals)

  judge_faults : (w : List ℤ) (p : Course) (a : Answer) (f : Fault) → reversals_of w <ℤ pos s.wanted_reversals →
      does s (work_of p) (Judge p) a ≡ Err f → ByMessage w a f
  unfolding ByMessage
  judge_faults w p Done f l e = absurd (grind arith)
  judge_faults w p (Fork g) f l e = absurd (grind arith)
  judge_faults w p (Got v) f l e = go (tap_in v) refl
    where
      go : (r : Result Tap Fault) → tap_in v ≡ r →
          (x : ℤ) × (Got v ≡ Got x) × (tap_in x ≡ Err f) × (reversals_of w <ℤ pos s.wanted_reversals)
      go (Ok t) i = let z = simp i at e in absurd (grind arith)
      go (Err g) i = let z = simp i at e in let same : g ≡ f = cc in (v, refl, i ∙ ap Err same, l)

  faults_at : (k : Stage) {place : ℕ} {w : List ℤ} (p : Course) (cells : List ℤ) (a : Answer) (f : Fault) → At s k place w p →
      means s place w cells a ≡ Err f → ByMessage w a f
  faults_at going {place} {w} p cells a f t e = elim t.here [
    | inl h ↦ let g = sym (at_show s p cells a t.fits) ∙ stands s cells a h t.is e in absurd (grind arith)
    | inr h ↦
        judge_faults w p a f (rw (reversals_are p t.is) (omega (arith, ints, t.count)))
        (sym (at_judge s p cells a t.fits) ∙ stands s cells a h t.is e)
  ]
  faults_at due p cells a f t e =
      let g = sym (at_report s p cells a t.fits) ∙ stands s cells a t.here t.is e in absurd (grind arith)
  faults_at over p cells a f t e = let g = stands s cells a t.here t.is e in absurd (grind arith)

  no_fault_at_first : (w cells : List ℤ) (a : Answer) (f : Fault) → means s 0 w cells a ≡ Err f → ByMessage w a f
  no_fault_at_first w cells a f e = absurd (grind arith)

  -- a thread's stage and progress, and what its next step does
  record Ready (place : ℕ) (w : List ℤ) : Type 0 where
    k : Stage
    p : Course
    fits : Bounded 15 p
    is : is_due k ≡ true → w ≡ work_of p
    next : (x : Moment) → x.place ≡ place → means s place w x.cells x.answer ≡ Ok x.outcome → Next s k p x
    faults : (cells : List ℤ) (a : Answer) (f : Fault) → means s place w cells a ≡ Err f → ByMessage w a f

  abbrev fresh : (w : List ℤ) → Ready 0 w
  fresh w =
      record {
        k = going;
        p = start s;
        fits = start_bounded s;
        is = λ e. absurd (false≢true e);
        next = first s w;
        faults = no_fault_at_first w;
      }

  abbrev later : {k : Stage} {p : Course} (x : Moment) → Next s k p x → Ready x.outcome.place x.outcome.work
  later x n =
      record {
        k = n.later;
        p = n.q;
        fits = n.at.fits;
        is = λ _. n.at.is;
        next = λ y. step s n.later n.q y n.at;
        faults = λ cells a f. faults_at n.later n.q cells a f n.at;
      }

  -- the line stays on the chart
  on_chart : {k : Stage} {place : ℕ} {w : List ℤ} {p : Course} → At s k place w p → (pos 0 ≤ℤ line_in w) × (line_in w ≤ℤ pos 13)
  on_chart {p = p} a = rw (line_is p a.is) (omega (arith, ints), omega (arith, ints, a.fits.line_exists))

  lines : {place : ℕ} {w : List ℤ} (xs : List Moment) → Ready place w → Run (means s) place w xs →
      All OnChart xs
  lines [] h r = All-nil OnChart
  lines (x ∷ xs) h r = let n = h.next x r.0 r.2 in All-cons OnChart x xs (on_chart n.at) (lines xs (later x n) r.3)

  -- the reversals climb
  climb : {v w : List ℤ} (p q : Course) (y : Moment) → v ≡ work_of p → w ≡ work_of q → Judges y p q →
      (reversals_of w ≡ reversals_of v) ⊎ ((reversals_of w ≡ reversals_of v +ℤ pos 1) × (t : Tap) × (tap_at y ≡ t ∷ []))
  climb p q y a b (keeps none e) = inl (reversals_are q b ∙ ap (λ x. pos x.reversals) e ∙ sym (reversals_are p a))
  climb p q y a b (judges t tap e) =
      let before = sym (reversals_are p a) in
      let now = reversals_are q b ∙ ap (λ x. pos x.reversals) e in
      elim (judged_climbs t p) [
        | inl c ↦ inl (now ∙ ap pos c ∙ before)
        | inr c ↦ inr (now ∙ ap pos c ∙ ap (λ z. z +ℤ pos 1) before, t, tap)
      ]

  climbs : {place : ℕ} {w : List ℤ} (before after : List Moment) (x y : Moment) → Ready place w →
      Run (means s) place w (before ++ x ∷ y ∷ after) → Climbs x y
  climbs [] after x y h r =
      let n = h.next x r.0 r.2 in
      let m = step s n.later n.q y n.at r.3.0 r.3.2 in
      climb n.q m.q y n.at.is m.at.is m.tap
  climbs (b ∷ bs) after x y h r = climbs bs after x y (later b (h.next b r.0 r.2)) r.3

  -- The result comes in time: whether it is due after some moments, from a stage on.
  abbrev now_due : Stage → List Moment → Bool
  now_due going xs = just_reached s xs
  now_due due [] = true
  now_due due (x ∷ xs) = false
  now_due over xs = false

  now_due_none : (k : Stage) → is_due k ≡ now_due k []
  now_due_none k = grind arith

  now_due_more : (k l : Stage) (p : Course) (x : Moment) (xs : List Moment) → Leads k l →
      At s l x.outcome.place x.outcome.work p → now_due l xs ≡ now_due k (x ∷ xs)
  now_due_more going going p x xs leads a = go xs
    where
      no : reached s x ≡ false
      no = rw (reversals_are p a.is) (lt-leb _ _ a.count)

      go : (xs : List Moment) → just_reached s xs ≡ just_reached s (x ∷ xs)
      go xs = grind (arith, no)
  now_due_more going due p x xs leads a = go xs
    where
      yes : reached s x ≡ true
      yes = rw (reversals_are p a.is) (le-leb _ _ (omega (arith, a.count)))

      go : (xs : List Moment) → now_due due xs ≡ just_reached s (x ∷ xs)
      go xs = grind (arith, yes)
  now_due_more k l p x xs leads a = grind arith

  in_time : {place : ℕ} {w : List ℤ} (before after : List Moment) (x : Moment) (h : Ready place w) →
      Run (means s) place w (before ++ x ∷ after) → emits x ≡ now_due h.k before
  in_time [] after x h r = (h.next x r.0 r.2).emitting ∙ now_due_none h.k
  in_time (b ∷ bs) after x h r =
      let n = h.next b r.0 r.2 in
      in_time bs after x (later b n) r.3 ∙ now_due_more h.k n.later n.q b bs n.leads n.at

  -- the result is the last line
  stops : (k : Stage) {place : ℕ} {w : List ℤ} (p : Course) (xs : List Moment) → IsOver k → At s k place w p → Run (means s) place w xs →
      All OnlyStops xs
  stops k p [] l a r = All-nil OnlyStops
  stops going p (x ∷ xs) l a r = absurd l
  stops due p (x ∷ xs) l a r = absurd l
  stops over p (x ∷ xs) l a r =
      let n = step s over p x a r.0 r.2 in
      All-cons OnlyStops x xs (ap (λ o. o.write) n.ends, ap (λ o. o.request) n.ends) (stops n.later n.q xs n.leads n.at r.3)

  IsResult : List Moment → Moment → ℤ → Type 0
  IsResult after x v =
      (v ≡ line_in x.work) × (x.outcome.write ≡ Some (record { cell = s.result_cell; value = v }))
      × All OnlyStops after

  result_here : (k : Stage) (p : Course) (x : Moment) (v : ℤ) (after : List Moment) → is_due k ≡ true → x.work ≡ work_of p →
      Next s k p x → Run (means s) x.outcome.place x.outcome.work after → x.outcome.request ≡ Emit v → IsResult after x v
  unfolding IsResult
  result_here going p x v after d i n r e = absurd (false≢true d)
  result_here over p x v after d i n r e = absurd (false≢true d)
  result_here due p x v after d i n r e =
      let f = ap (λ o. o.request) n.ends in
      let same : v ≡ pos p.line = cc in (
        same ∙ sym (line_is p i),
        ap (λ o. o.write) n.ends ∙ ap (λ z. Some (record { cell = s.result_cell; value = z })) (sym same),
        stops n.later n.q after n.leads n.at r,
      )

  result : {place : ℕ} {w : List ℤ} (before after : List Moment) (x : Moment) (v : ℤ) → Ready place w →
      Run (means s) place w (before ++ x ∷ after) → x.outcome.request ≡ Emit v → IsResult after x v
  result [] after x v h r e =
      let n = h.next x r.0 r.2 in
      let d = sym n.emitting ∙ ap is_emit e in
      result_here h.k h.p x v after d (r.1 ∙ h.is d) n r.3 e
  result (b ∷ bs) after x v h r e = result bs after x v (later b (h.next b r.0 r.2)) r.3 e

  -- line and reversals are what the taps come to
  record ComesTo (p : Course) (taps : List Tap) (v : List ℤ) : Type 0 where
    line_comes : line_in v ≡ pos (line_then p taps)
    reversals_come : reversals_of v ≡ pos (reversals_then p taps)

  comes_none : {w : List ℤ} (p : Course) → w ≡ work_of p → Bounded 15 p → ComesTo p [] w
  comes_none p e b =
      let n = then_none p p.run refl b.short_run in
      record { line_comes = line_is p e ∙ ap pos (sym n.0); reversals_come = reversals_are p e ∙ ap pos (sym n.1) }

  comes_more : (p q : Course) (x : Moment) (taps : List Tap) (v : List ℤ) → Bounded 15 p → Judges x p q → ComesTo q taps v →
      ComesTo p (tap_at x ++ taps) v
  comes_more p q x taps v b (keeps none e) c = rw (none, sym e) c
  comes_more p q x taps v b (judges t tap e) c =
      let d : ComesTo (judged t p) taps v = rw (sym e) c in
      let n = then_more t p p.run taps refl b.short_run in
      rw tap (record { line_comes = d.line_comes ∙ ap pos n.0; reversals_come = d.reversals_come ∙ ap pos n.1 })

  comes : (k : Stage) (p : Course) (x : Moment) (xs : List Moment) → Bounded 15 p → Next s k p x →
      Run (means s) x.outcome.place x.outcome.work xs → ComesTo p (taps_in (x ∷ xs)) (work_after x.outcome.work xs)
  comes k p x [] b n r = comes_more p n.q x _ _ b n.tap (comes_none n.q n.at.is n.at.fits)
  comes k p x (y ∷ ys) b n r =
      comes_more p n.q x _ _ b n.tap
      (comes n.later n.q y ys n.at.fits (step s n.later n.q y n.at r.0 r.2) r.3)

  faults_after : {place : ℕ} {w : List ℤ} (xs : List Moment) (cells : List ℤ) (a : Answer) (f : Fault) → Ready place w →
      Run (means s) place w xs → means s (place_after place xs) (work_after w xs) cells a ≡ Err f → ByMessage (work_after w xs) a f
  faults_after [] cells a f h r e = h.faults cells a f e
  faults_after (x ∷ xs) cells a f h r e = faults_after xs cells a f (later x (h.next x r.0 r.2)) r.3 e

  pub lawful : Lawful s
  unfolding ByMessage IsResult
  lawful =
      record {
        line_stays = λ xs r. lines xs (fresh r.0) r.1;
        reversals_climb = λ before after x y r. climbs before after x y (fresh r.0) r.1;
        result_in_time = λ before after x r. in_time before after x (fresh r.0) r.1;
        result_is_last_line = λ before after x v r e. result before after x v (fresh r.0) r.1 e;
        taps_decide = λ w x xs r.
            let c = comes going (start s) x xs (start_bounded s) (first s w x r.0 r.2) r.3 in
            (c.line_comes, c.reversals_come ∙ ap pos (zero-add _));
        faults_by_message = λ w xs cells a f r e. faults_after xs cells a f (fresh w) r e;
      }
