-- Hexadecimal digits, read as the standard library reads them, give their number back. Assumes nothing.
use Rattle.std.proofs.Common.{◌≡◌, ℕ, zero, suc, ◌+◌, ◌-◌, map, ◌*◌, ◌/◌, ◌%◌, ◌^◌, ◌<◌, Bool, true, ◌&&◌, eqb, refl, ap, ◌∙◌, mod-lt, mod-eq_of_lt, mul_assoc, add-mul, zero-mul, arith, List, ℤ, pos, negsuc, SFits, w32}
use native.Mathlib.Nat.{mod-one, pow-succ', one-le-pow}
use lib.Arith.{mod-mul}
use Rattle.std.proofs.lemmas.Bool.Decides.{Decides-eqb, Decides-below_and}
use Rattle.std.specs.List.{range_with_len}
use Rattle.std.specs.Str.Parse.{digits_value, digits_value_after}
use Rattle.std.specs.Char.{digit_value}
use Rattle.lines.specs.Hex.{digit_code, hex, complement}
use Rattle.lines.specs.Lines.{reading_line, ReadsBack}
use Rattle.lines.specs.declared.readings.Reading.{Reading}

-- of each digit, by trying them all
all_back : ℕ → Bool
all_back zero = true
all_back (suc d) = eqb (digit_value (digit_code d)) d && all_back d

digit_back : (d : ℕ) → d < 16 → digit_value (digit_code d) ≡ d
unfolding all_back
digit_back d h =
    (Decides-below_and (λ k. eqb (digit_value (digit_code k)) k) (λ k. digit_value (digit_code k) ≡ k) all_back
    (λ k. Decides-eqb _ _) refl (λ _. refl) 16).0 refl d h

-- after the digits of m
back_after : (w n m : ℕ) → digits_value_after 16 m (hex w n) ≡ m * 16 ^ w + n % 16 ^ w
back_after zero n m = omega (arith, mod-one n)
back_after (suc w) n m =
    let d = digit_back (n / 16 ^ w % 16) (mod-lt _ (omega arith)) in
    let r = back_after w n (m * 16 + n / 16 ^ w % 16) in
    let c = mod-mul n {m = 16} {c = 16 ^ w} (omega arith) (one-le-pow w 16 (omega arith)) in
    ap (λ x. digits_value_after 16 (m * 16 + x) (hex w n)) d ∙ r
    ∙ rw (pow-succ' 16 w) (omega (arith, c, add-mul (m * 16) (n / 16 ^ w % 16) (16 ^ w), mul_assoc m 16 (16 ^ w)))

-- digits give back a number that they are enough for
pub back : (w n : ℕ) → n < 16 ^ w → digits_value 16 (hex w n) ≡ n
back w n h = back_after w n 0 ∙ omega (arith, zero-mul (16 ^ w), mod-eq_of_lt h)

-- digits, one for each place, are those of the number
pub placed : (N n a w : ℕ) → a + w ≡ N → map (λ k. digit_code (n / 16 ^ (N - 1 - k) % 16)) (range_with_len a w) ≡ hex w n
placed N n a zero e = refl
placed N n a (suc w) e =
    let here : N - 1 - a ≡ w = omega arith in
    let r = placed N n (a + 1) w (omega arith) in
    simp (here, r)

complement_small : (z : ℤ) → SFits w32 z → complement z < 16 ^ 8
complement_small (pos n) f = omega (arith, f.sfits)
complement_small (negsuc n) f = omega (arith, f.sfits)

-- a reading's line gives label and value back
pub read_back : (r : Reading) (line : List ℕ) → line ≡ reading_line r → r.label < 16 ^ 4 → SFits w32 r.value → ReadsBack r line
read_back r line e f g =
    rw e (record {
      label = back 4 r.label f;
      value = back 8 (complement r.value) (complement_small r.value g);
    })
