use Rattle.std.proofs.Common.{◌≡◌, ℕ, zero, suc, ◌+◌, ◌-◌, ◌/◌, ◌%◌, ◌^◌, ◌<◌, ◌≤◌, inl, inr, List, get_or, refl, ap, ◌∙◌, arith}
use Rattle.std.proofs.lemmas.Bool.{cases_lt}
use Rattle.std.proofs.lemmas.List.FromFn.{fill_by_all}
use Rattle.std.specs.Array.{IsFromFnResultFrom}
use Rattle.std.specs.Fn.{Mut, Called}
use Rattle.lines.specs.Hex.{digit_code}
use Rattle.lines.proofs.Digits.{placed}
use Rattle.lines.proofs.hex.digits.Goals as goal

module _ {F : Type 0} (call : Mut F (ℕ × Unit {0}) ℕ) (value : ℕ → ℕ) (f : F)
    (keeps : (p q : F) (i y : ℕ) → p ≡ f → Called call p (i, tt) y q → (q ≡ f) × (y ≡ value i)) where
  each : (n : ℕ) (p : F) (ys : List ℕ) (i k : ℕ) → p ≡ f → IsFromFnResultFrom call p ys i n → i ≤ k → k < i + n → get_or ys k 0 ≡ value k
  each zero p ys i k e r low high = absurd (omega arith)
  each (suc n) p ys i k e r low high =
      let s = keeps p r.0 i r.1 e r.3 in elim (cases_lt i k) [
        | inl h ↦ each n r.0 ys (i + 1) k s.0 r.4 (omega arith) (omega arith)
        | inr h ↦ let same : k ≡ i = omega arith in rw same (r.2.1 0 ∙ s.1)
      ]

pub returns : goal.returns
returns g c =
    let value = λ (k : ℕ). digit_code (c.args.number / 16 ^ (g.row.N - 1 - k) % 16) in
    let ensured = c.from_fn.ensures.items in
    fill_by_all value c.from_fn.result g.row.N 0 ensured.long (λ k h.
    each _ value _ (λ p q i y e m. (ap (λ b. record { 0 = b }) m.met.0 ∙ e, m.met.1 ∙ ap (λ s. digit_code (s.0.now / 16 ^ (g.row.N - 1 - i) % 16)) e))
    g.row.N _ _ 0 k refl ensured.each (omega arith) (omega arith))
    ∙ placed g.row.N c.args.number 0 g.row.N (omega arith)
