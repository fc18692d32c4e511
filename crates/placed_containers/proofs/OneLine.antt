-- The compact text of a value that has no float is one line.
use Rattle.std.specs.Prelude.{◌≡◌, ◌≢◌, ◌+◌, ◌<◌, ◌/◌, ◌%◌, ◌==◌, ◌||◌, ℕ, zero, suc, ℤ, pos, negsuc, Bool, true, false, cond, if◌then◌else◌, nat_lt, List, [], ◌∷◌, ◌++◌, refl}
use Rattle.std.specs.Char.{digit_char}
use Rattle.std.specs.Fmt.{digit_glyph, digits_onto, digits, decimal, signed_decimal}
use Rattle.std.proofs.Common.{sym, ap, ◌∙◌, arith, true≢false, ne_eqb}
use Rattle.json.specs.Print.{escape_letter, escape_byte, escape, quoted}
use Rattle.stages.specs.Tests.{either, or-false_left, or-false_right}
use Rattle.serde_json.specs.Data.{Num, unsigned, negative, float, Data, null, boolean, number, string, array, object, Items, no_items, item, Members, no_members, member}
use Rattle.serde_json.specs.Written.{compact_text, items_text, members_text, number_text, has_float, items_have_float, members_have_float, comma_if}
use Rattle.serde_json.specs.Find.{is_float}
use Rattle.placed_containers.specs.OneLine.{is_one_line}

one_line-append : (a b : List ℕ) → is_one_line a ≡ true → is_one_line b ≡ true → is_one_line (a ++ b) ≡ true
one_line-append [] b h k = k
one_line-append (x ∷ a) b h k =
    either (x == 10)
    (λ t. let no : false ≡ true = simp t at h in absurd (true≢false (sym no)))
    (λ t. let rest : is_one_line a ≡ true = simp t at h in simp t (one_line-append a b rest k))

one_line-cons : (x : ℕ) (l : List ℕ) → x ≢ 10 → is_one_line l ≡ true → is_one_line (x ∷ l) ≡ true
one_line-cons x l apart k = simp (ne_eqb x 10 apart) k

choose : (t : Bool) (a b : List ℕ) → is_one_line a ≡ true → is_one_line b ≡ true → is_one_line (if t then a else b) ≡ true
choose true a b h k = h
choose false a b h k = k

above : (t u : Bool) (d : ℕ) → 10 < (if t then 48 + d else (if u then 55 + d else 87 + d))
above true u d = omega arith
above false true d = omega arith
above false false d = omega arith

glyph-apart : (upper : Bool) (d : ℕ) → digit_glyph upper d ≢ 10
glyph-apart upper d e = let h = above (nat_lt d 10) upper d in omega (arith, h, e)

digits_onto-line : (k base : ℕ) (upper : Bool) (n : ℕ) (acc : List ℕ) → is_one_line acc ≡ true → is_one_line (digits_onto k base upper n acc) ≡ true
digits_onto-line zero base upper n acc h = h
digits_onto-line (suc k) base upper n acc h =
    let one = one_line-cons (digit_glyph upper (n % base)) acc (glyph-apart upper (n % base)) h in
    choose (n / base == 0) _ _ one (digits_onto-line k base upper (n / base) (digit_glyph upper (n % base) ∷ acc) one)

digits-line : (base : ℕ) (upper : Bool) (n : ℕ) → is_one_line (digits base upper n) ≡ true
unfolding digits
digits-line base upper n = digits_onto-line 64 base upper n [] refl

signed-line : (z : ℤ) → is_one_line (signed_decimal z) ≡ true
signed-line (pos n) = digits-line 10 false n
signed-line (negsuc n) = one_line-cons 45 (decimal (suc n)) (λ e. omega arith) (digits-line 10 false (suc n))

letter : (t a b c d e : Bool) (x : ℕ) → (t ≡ true → x ≢ 10) → cond t x (cond a 98 (cond b 102 (cond c 110 (cond d 114 (cond e 116 0))))) ≢ 10
letter true a b c d e x h = h refl
letter false true b c d e x h = λ e. omega arith
letter false false true c d e x h = λ e. omega arith
letter false false false true d e x h = λ e. omega arith
letter false false false false true e x h = λ e. omega arith
letter false false false false false true x h = λ e. omega arith
letter false false false false false false x h = λ e. omega arith

letter-apart : (x : ℕ) → escape_letter x ≢ 10
letter-apart x =
    letter ((x == 34) || (x == 92)) (x == 8) (x == 12) (x == 10) (x == 13) (x == 9) x
    (λ t e. true≢false (sym t ∙ ap (λ y. (y == 34) || (y == 92)) e))

hex : (t : Bool) (d : ℕ) → cond t (48 + d) (87 + d) ≢ 10
hex true d = λ e. omega arith
hex false d = λ e. omega arith

escape_byte-line : (x : ℕ) → is_one_line (escape_byte x) ≡ true
unfolding escape_byte
escape_byte-line x =
    let tens : ℕ = x / 16 in
    let ones : ℕ = x % 16 in
    let digits : is_one_line (digit_char tens ∷ digit_char ones ∷ []) ≡ true =
    one_line-cons (digit_char tens) (digit_char ones ∷ []) (hex (nat_lt tens 10) tens) (one_line-cons (digit_char ones) [] (hex (nat_lt ones 10) ones) refl) in
    let long : List ℕ = 92 ∷ 117 ∷ 48 ∷ 48 ∷ digit_char tens ∷ digit_char ones ∷ [] in
    let itself : is_one_line (cond (nat_lt x 32) long (x ∷ [])) ≡ true =
    either (nat_lt x 32)
    (λ t. simp t digits)
    (λ t. simp t (one_line-cons x [] (λ e. let no : true ≡ false = sym (ap (λ y. nat_lt y 32) e) ∙ t in true≢false no) refl)) in
    choose (nat_lt 0 (escape_letter x)) (92 ∷ escape_letter x ∷ []) (cond (nat_lt x 32) long (x ∷ []))
    (one_line-cons (escape_letter x) [] (letter-apart x) refl) itself

escape-line : (s : List ℕ) → is_one_line (escape s) ≡ true
escape-line [] = refl
escape-line (x ∷ s) = one_line-append (escape_byte x) (escape s) (escape_byte-line x) (escape-line s)

quoted-line : (s : List ℕ) → is_one_line (quoted s) ≡ true
quoted-line s = one_line-append (escape s) (34 ∷ []) (escape-line s) refl

number-line : (n : Num) → is_float n ≡ false → is_one_line (number_text n) ≡ true
number-line (unsigned n) h = digits-line 10 false n
number-line (negative z) h = signed-line z
number-line (float x) h = absurd (true≢false h)

boolean-line : (b : Bool) → is_one_line (compact_text (boolean b)) ≡ true
boolean-line true = refl
boolean-line false = refl

comma-line : (later : Bool) → is_one_line (comma_if later) ≡ true
comma-line true = refl
comma-line false = refl

mutual
  -- the compact text of a value that has no float is one line
  pub compact-line : (d : Data) → has_float d ≡ false → is_one_line (compact_text d) ≡ true
  compact-line null h = refl
  compact-line (boolean b) h = boolean-line b
  compact-line (number n) h = number-line n h
  compact-line (string s) h = quoted-line s
  compact-line (array ds) h = items-line false ds h
  compact-line (object ms) h = members-line false ms h

  items-line : (later : Bool) (ds : Items) → items_have_float ds ≡ false → is_one_line (items_text later ds) ≡ true
  items-line later no_items h = refl
  items-line later (item d ds) h =
      let rest : is_one_line (compact_text d ++ items_text true ds) ≡ true =
      one_line-append (compact_text d) (items_text true ds)
      (compact-line d (or-false_left (has_float d) (items_have_float ds) h))
      (items-line true ds (or-false_right (has_float d) (items_have_float ds) h)) in
      one_line-append (comma_if later) (compact_text d ++ items_text true ds) (comma-line later) rest

  members-line : (later : Bool) (ms : Members) → members_have_float ms ≡ false → is_one_line (members_text later ms) ≡ true
  members-line later no_members h = refl
  members-line later (member k d ms) h =
      let rest : is_one_line (compact_text d ++ members_text true ms) ≡ true =
      one_line-append (compact_text d) (members_text true ms)
      (compact-line d (or-false_left (has_float d) (members_have_float ms) h))
      (members-line true ms (or-false_right (has_float d) (members_have_float ms) h)) in
      let entry : is_one_line (quoted k ++ 58 ∷ (compact_text d ++ members_text true ms)) ≡ true =
      one_line-append (quoted k) (58 ∷ (compact_text d ++ members_text true ms)) (quoted-line k) rest in
      one_line-append (comma_if later) (quoted k ++ 58 ∷ (compact_text d ++ members_text true ms)) (comma-line later) entry
