-- Digits with no sign and no zero ahead of them are what is written of their value, and back.
use Rattle.std.proofs.Common.{refl, sym, ap, ◌∙◌, ◌≡◌, ◌≢◌, ℕ, zero, suc, ◌<◌, ◌≤◌, ◌^◌, true, List, [], ◌∷◌, ◌++◌, length, drop, get_or, replicate, Result, Ok, Err, Some, IfSome, arith, decimal}
use Rattle.std.proofs.lemmas.Str.{IsUtf8-from_ascii}
use Rattle.std.specs.Str.{IsUtf8}
use Rattle.std.proofs.lemmas.Fmt.{IsAscii-decimal, decimal_digit, decimal_nonempty, first_decimal, decimal_is_IsNumeral, decimal-digits_value, parse-decimal}
use Rattle.std.proofs.lemmas.Str.Parse.{numerals_by_value, tells_digits, parse_plain, digit_at}
use Rattle.std.specs.Result.{result_ok}
use Rattle.std.specs.Str.Parse.{ParsesUnsigned}
use Rattle.board_text.specs.Lists.{Justified, is_plain}

-- the first digit of what is written
front_low : (n : ℕ) → n < 2 ^ 64 → 48 ≤ get_or (decimal n) 0 0
front_low n small = let d = digit_at (decimal n) 0 (decimal_is_IsNumeral n small).0.1 (decimal_nonempty n small) in d.0

one_digit : (ds : List ℕ) → ds ≡ 48 ∷ [] → length ds ≡ 1
one_digit ds e = rw e refl

alone : (n : ℕ) → n < 2 ^ 64 → get_or (decimal n) 0 0 ≡ 48 → length (decimal n) ≡ 1
alone zero small e = one_digit (decimal 0) (decimal_digit 0 (omega arith))
alone (suc n) small e = let more = first_decimal (suc n) (omega arith) small in absurd (omega arith)

plain_by : (bs : List ℕ) → 48 ≤ get_or bs 0 0 → (get_or bs 0 0 ≡ 48 → length bs ≡ 1) → is_plain bs ≡ true
plain_by [] low lone = refl
plain_by (c ∷ []) low lone = grind arith
plain_by (c ∷ d ∷ ds) low lone = grind arith

pub plain_decimal : (n : ℕ) → n < 2 ^ 64 → is_plain (decimal n) ≡ true
plain_decimal n small = plain_by (decimal n) (front_low n small) (alone n small)

no_sign : (bs : List ℕ) → is_plain bs ≡ true → get_or bs 0 0 ≢ 43
no_sign [] plain = grind arith
no_sign (c ∷ []) plain = grind arith
no_sign (c ∷ d ∷ ds) plain = grind arith

no_zero : (bs : List ℕ) → is_plain bs ≡ true → get_or bs 0 0 ≡ 48 → length bs ≡ 1
no_zero [] plain e = absurd (omega arith)
no_zero (c ∷ []) plain e = refl
no_zero (c ∷ d ∷ ds) plain e = grind arith

-- text that parses and is plain is what is written of its number
pub parsed_only : {E : Type 0} (bs : List ℕ) (r : Result ℕ E) → ParsesUnsigned 64 10 bs r → is_plain bs ≡ true → IfSome (result_ok r) (λ n. bs ≡ decimal n)
parsed_only {E} bs (Ok n) h plain =
    let own = numerals_by_value _ tells_digits in
    let o = parse_plain own {E = E} 64 bs (Ok n) h (no_sign bs plain) in
    let written = decimal-digits_value own bs o.0.0 o.0.1 (no_zero bs plain) o.0.2 in
    sym (ap decimal o.1 ∙ written)
parsed_only bs (Err x) h plain = tt

-- what is written of a number parses to it
pub parsed_every : {E : Type 0} (n : ℕ) (bs : List ℕ) (r : Result ℕ E) → n < 2 ^ 64 → bs ≡ decimal n → ParsesUnsigned 64 10 bs r → result_ok r ≡ Some n
parsed_every n bs r small e h = ap result_ok (parse-decimal 64 n bs r small small e h)

pub is_text : (n : ℕ) (bs : List ℕ) → n < 2 ^ 64 → bs ≡ decimal n → IsUtf8 bs
is_text n bs small e = rw e (IsUtf8-from_ascii (decimal n) (IsAscii-decimal n small))

pub one_blank_more : (n : ℕ) (columns rest : List ℕ) → columns ≡ 32 ∷ rest → Justified n rest → Justified n columns
one_blank_more n columns rest e j = record { blanks = suc j.blanks; is = e ∙ ap (λ ds. 32 ∷ ds) j.is }

less : (n : ℕ) (cs : List ℕ) (b : ℕ) → n < 2 ^ 64 → 32 ∷ cs ≡ replicate b 32 ++ decimal n → Justified n cs
less n cs zero small e =
    let low = front_low n small in let front : 32 ≡ get_or (decimal n) 0 0 = ap (λ ds. get_or ds 0 0) e in absurd (omega arith)
less n cs (suc b) small e = record { blanks = b; is = ap (drop 1) e }

pub one_blank_less : (n : ℕ) (columns rest : List ℕ) → columns ≡ 32 ∷ rest → n < 2 ^ 64 → Justified n columns → Justified n rest
one_blank_less n columns rest e small j = less n rest j.blanks small (sym e ∙ j.is)

-- with another byte than a blank in front there are no blanks
bare : (n : ℕ) (columns : List ℕ) (b : ℕ) → get_or columns 0 0 ≢ 32 → columns ≡ replicate b 32 ++ decimal n → columns ≡ decimal n
bare n columns zero other e = e
bare n columns (suc b) other e = absurd (other (ap (λ ds. get_or ds 0 0) e))

pub no_blank : (n : ℕ) (columns : List ℕ) → get_or columns 0 0 ≢ 32 → Justified n columns → columns ≡ decimal n
no_blank n columns other j = bare n columns j.blanks other j.is

pub written : (n : ℕ) (columns : List ℕ) → columns ≡ decimal n → Justified n columns
written n columns e = record { blanks = 0; is = e }
