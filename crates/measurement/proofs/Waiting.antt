-- What a staircase's thread does with a tap. Assumes nothing.
use Rattle.std.proofs.Common.{◌≡◌, ℕ, ◌+◌, ◌<◌, ◌≤◌, ◌⊎◌, List, [], ◌∷◌, ◌++◌, length, get_or, take, replicate, ℤ, pos, Some, None, Ok, Option, sym, ap, ◌∙◌, subst, inl, inr, arith, w32, SFits, to_z, of_z, below_more}
use Rattle.std.proofs.lemmas.List.FromFn.{map-range_with_len_more}
use Rattle.std.proofs.lemmas.List.{set-set, get_or-set_same, take_more}
use Rattle.std.proofs.lemmas.Int.{to_z-of_z}
use Rattle.std.proofs.lemmas.Bool.{le-leb, lt-leb, cases_lt}
use Rattle.std.specs.Result.{IsOk}
use Rattle.model.specs.declared.threads.Answer.TheVariants.{Done, Got}
use Rattle.model.specs.declared.threads.Request.TheVariants.{Receive, Emit}
use Rattle.staircase.specs.declared.Staircase.{Staircase}
use Rattle.staircase.specs.declared.taps.Tap.{Tap}
use Rattle.staircase.specs.declared.taps.Tap.TheVariants.{Seen}
use Rattle.staircase.specs.Taps.{message_of, tap_in}
use Rattle.staircase.specs.Progress.{Course, Bounded, progress_in, work_of, judged}
use Rattle.staircase.specs.Steps.{start}
use Rattle.staircase.proofs.Judging.{progress_back, judged_climbs, after, after_more, after_line, after_reversals}
use Rattle.staircase.proofs.Stages.{start_bounded, judged_fits}
use Rattle.measurement.specs.declared.threads.Thread.{Thread}
use Rattle.measurement.specs.Threads.{started, stepped, asked, emitted, waiting, Waits}
use Rattle.measurement.specs.Measuring.{line_at, reversals_at, lines_before}

heard : (t : Tap) → tap_in (message_of t) ≡ Ok t
heard t = grind arith

module _ (s : Staircase) where
  pub begins : stepped s Done (stepped s Done started) ≡ waiting s (start s)
  begins = let e = progress_back (start s) (start_bounded s) in simp e

  module _ (p : Course) (fits : Bounded 15 p) (less : p.reversals < s.wanted_reversals) (t : Tap) where
    before : progress_in (work_of p) ≡ Ok p
    before = progress_back p fits

    behind : progress_in (work_of (judged t p)) ≡ Ok (judged t p)
    behind = progress_back (judged t p) (judged_fits s p t fits less)

    -- too few reversals still: the next line is shown
    pub shows_next : (judged t p).reversals < s.wanted_reversals →
        (stepped s Done (stepped s (Got (message_of t)) (waiting s p)) ≡ waiting s (judged t p))
        × (asked s Done (stepped s (Got (message_of t)) (waiting s p)) ≡ Ok Receive)
    shows_next l =
        let d = lt-leb _ _ l in
        (simp (before, heard t, d, behind, set-set), simp (before, heard t, d, behind))

    -- enough: the line is the result
    pub gives_result : s.wanted_reversals ≤ (judged t p).reversals →
        asked s Done (stepped s (Got (message_of t)) (waiting s p)) ≡ Ok (Emit (pos (judged t p).line))
    gives_result l = let d = le-leb _ _ l in simp (before, heard t, d, behind)

-- After i taps the thread waits with what they come to, and the wanted reversals were not reached.
pub record Sits (s : Staircase) (taps : List Tap) (i : ℕ) (t : Thread) : Type 0 where
  pub is : t ≡ waiting s (after (start s) (take i taps))
  pub fits : Bounded 15 (after (start s) (take i taps))
  pub less : (k : ℕ) → k < i + 1 → reversals_at taps k < s.wanted_reversals

module _ (s : Staircase) (taps : List Tap) where
  reversals_now : (i : ℕ) → (after (start s) (take i taps)).reversals ≡ reversals_at taps i
  reversals_now i = after_reversals s.start_line (take i taps)

  line_now : (i : ℕ) → pos (after (start s) (take i taps)).line ≡ line_at s.start_line taps i
  line_now i = ap pos (after_line s.start_line (take i taps))

  pub sits_first : (t : Thread) → t ≡ stepped s Done (stepped s Done started) → Sits s taps 0 t
  sits_first t e =
      record { is = e ∙ begins s; fits = start_bounded s; less = λ k h. let z : k ≡ 0 = omega arith in rw z s.some_wanted }

  module _ (i : ℕ) (t : Thread) (sits : Sits s taps i t) where
    few : (after (start s) (take i taps)).reversals < s.wanted_reversals
    few = rw (reversals_now i) (sits.less i (omega arith))

    pub waits : Waits s t
    waits = record { p = after (start s) (take i taps); is = sits.is; fits = sits.fits; less = few }

    abbrev p : Course
    p = after (start s) (take i taps)

    shows : (cell : ℕ) → cell ≡ s.show_cell → get_or t.cells cell (pos 0) ≡ pos p.line
    shows cell e =
        let exists : s.show_cell < length (replicate 64 (pos 0)) = omega (arith, s.show_exists) in
        ap (λ u. get_or u.cells cell (pos 0)) sits.is
        ∙ ap (λ n. get_or (waiting s p).cells n (pos 0)) e
        ∙ get_or-set_same (replicate 64 (pos 0)) s.show_cell _ (pos 0) exists

    -- one more line is shown
    pub one_more_line : (cell : ℕ) (shown more : List ℤ) → cell ≡ s.show_cell →
        more ≡ shown ++ to_z w32 (of_z w32 (get_or t.cells cell (pos 0))) ∷ [] → shown ≡ lines_before s.start_line taps i →
        more ≡ lines_before s.start_line taps (i + 1)
    one_more_line cell shown more e f g =
        let fits : SFits w32 (pos p.line) = record { sfits = omega (arith, sits.fits.line_exists) } in
        let a = to_z-of_z w32 _ fits ∙ line_now i in
        let b = map-range_with_len_more (line_at s.start_line taps) 0 i i (omega arith) in
        let c = shows cell e in
        cc

    -- a further tap: the thread waits again, or gives its result
    pub hears : (u : Thread) (r : Option ℤ) → i < length taps →
        u ≡ stepped s Done (stepped s (Got (message_of (get_or taps i Seen))) t) →
        r ≡ emitted (asked s Done (stepped s (Got (message_of (get_or taps i Seen))) t)) →
        ((r ≡ None) × Sits s taps (i + 1) u)
        ⊎ ((r ≡ Some (line_at s.start_line taps (i + 1))) × (reversals_at taps (i + 1) ≡ s.wanted_reversals))
    hears u r within e f = go (cases_lt (judged tap p).reversals s.wanted_reversals)
      where
        tap : Tap
        tap = get_or taps i Seen

        q_is : after (start s) (take (i + 1) taps) ≡ judged tap p
        q_is = ap (after (start s)) (take_more taps i Seen within) ∙ after_more (start s) (take i taps) tap

        reversals_is : reversals_at taps (i + 1) ≡ (judged tap p).reversals
        reversals_is = sym (reversals_now (i + 1)) ∙ ap (λ x. x.reversals) q_is

        go : ((judged tap p).reversals < s.wanted_reversals) ⊎ (s.wanted_reversals ≤ (judged tap p).reversals) →
            ((r ≡ None) × Sits s taps (i + 1) u)
            ⊎ ((r ≡ Some (line_at s.start_line taps (i + 1))) × (reversals_at taps (i + 1) ≡ s.wanted_reversals))
        go (inl l) =
            let n = shows_next s p sits.fits few tap l in
            inl (
              f ∙ ap (λ x. emitted (asked s Done (stepped s (Got (message_of tap)) x))) sits.is ∙ ap emitted n.1,
              record {
                is = e ∙ ap (λ x. stepped s Done (stepped s (Got (message_of tap)) x)) sits.is ∙ n.0 ∙ ap (waiting s) (sym q_is);
                fits = subst (Bounded 15) (sym q_is) (judged_fits s p tap sits.fits few);
                less = below_more (λ k. reversals_at taps k < s.wanted_reversals) (i + 1) sits.less (rw reversals_is l);
              },
            )
        go (inr l) =
            let g = gives_result s p sits.fits few tap l in
            inr (
              f ∙ ap (λ x. emitted (asked s Done (stepped s (Got (message_of tap)) x))) sits.is ∙ ap emitted g
                  ∙ ap Some (ap (λ x. pos x.line) (sym q_is) ∙ line_now (i + 1)),
              reversals_is ∙ elim (judged_climbs tap p) [ inl k ↦ omega (arith, few) | inr k ↦ omega (arith, few) ],
            )

-- a thread that waits does not fault at a tap
pub never_faults : (s : Staircase) (t u : Thread) (tap : Tap) → Waits s t → u ≡ stepped s (Got (message_of tap)) t → IsOk (asked s Done u)
never_faults s t u tap w e =
    let d : asked s Done u ≡ asked s Done (stepped s (Got (message_of tap)) (waiting s w.p)) =
    ap (asked s Done) (e ∙ ap (stepped s (Got (message_of tap))) w.is) in
    elim (cases_lt (judged tap w.p).reversals s.wanted_reversals) [
      | inl l ↦ rw (d ∙ (shows_next s w.p w.fits w.less tap l).1)
      | inr l ↦ rw (d ∙ gives_result s w.p w.fits w.less tap l)
    ]
