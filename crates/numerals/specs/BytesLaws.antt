-- Bench figures, the C call: one word put into the bytes of a memory is one word put into its words.
use Rattle.std.specs.Prelude.{ℕ, zero, suc, ◌+◌, ◌*◌, ◌/◌, ◌≤◌, ◌<◌, ◌^◌, List, ◌∷◌, ◌≢◌, ◌≡◌, refl, get_or, length, set}
use Rattle.std.proofs.Common.{sym, ap, subst, ◌∙◌, length-set, get_or-set_other, get_or-set_same, add-zero, mod-eq_of_lt, zero-add, arith}
use Rattle.pins.specs.Trace.{joined, items_from, records_from, whole_records, word_at}
use Rattle.numerals.specs.Bytes.{Four, byte_of, high_first, low_byte, put_four, put_word, words_in}

pub word_again : (word : ℕ) → word < 2 ^ 32 → joined (byte_of 24 word) (byte_of 16 word) (byte_of 8 word) (low_byte word) ≡ word
word_again word h =
    let top : word / 2 ^ 24 < 2 ^ 8 = omega arith in
    let e : byte_of 24 word ≡ word / 2 ^ 24 = mod-eq_of_lt top in
    rw e (omega arith)

pub put_length : (bytes : List ℕ) (at word : ℕ) → length (put_word bytes at word) ≡ length bytes
unfolding put_word put_four
put_length bytes at word = simp length-set

-- the bytes after the first, the second and the third of four bytes
abbrev one : List ℕ → ℕ → Four → List ℕ
one bytes at four = set bytes at four.first

abbrev two : List ℕ → ℕ → Four → List ℕ
two bytes at four = set (one bytes at four) (at + 1) four.second

abbrev three : List ℕ → ℕ → Four → List ℕ
three bytes at four = set (two bytes at four) (at + 2) four.third

abbrev number_in : Four → ℕ
number_in four = joined four.first four.second four.third four.fourth

put_byte_other : (bytes : List ℕ) (at : ℕ) (four : Four) (i : ℕ) → i ≢ at → i ≢ at + 1 → i ≢ at + 2 → i ≢ at + 3 → get_or (put_four bytes at four) i 0 ≡ get_or bytes i 0
unfolding put_four
put_byte_other bytes at four i a b c d =
    get_or-set_other (three bytes at four) (at + 3) i four.fourth 0 d ∙ get_or-set_other (two bytes at four) (at + 2) i four.third 0 c
    ∙ get_or-set_other (one bytes at four) (at + 1) i four.second 0 b
    ∙ get_or-set_other bytes at i four.first 0 a

put_other : (bytes : List ℕ) (place : ℕ) (four : Four) (other : ℕ) → place ≢ other → word_at (put_four bytes (place * 4) four) (other * 4) ≡ word_at bytes (other * 4)
unfolding word_at
put_other bytes place four other apart =
    let at = other * 4 in
    let far : (i : ℕ) → at ≤ i → i < at + 4 → get_or (put_four bytes (place * 4) four) i 0 ≡ get_or bytes i 0
    = λ i h k. put_byte_other bytes (place * 4) four i (λ e. apart (omega arith)) (λ e. apart (omega arith)) (λ e. apart (omega arith)) (λ e. apart (omega arith)) in
    rw (
      far at (omega arith) (omega arith),
      far (at + 1) (omega arith) (omega arith),
      far (at + 2) (omega arith) (omega arith),
      far (at + 3) (omega arith) (omega arith),
    )
    refl

put_same : (bytes : List ℕ) (place : ℕ) (four : Four) → place * 4 + 3 < length bytes → word_at (put_four bytes (place * 4) four) (place * 4) ≡ number_in four
unfolding word_at put_four
put_same bytes place four within =
    let at = place * 4 in
    let b0 = one bytes at four in
    let b1 = two bytes at four in
    let b2 = three bytes at four in
    let l0 : length b0 ≡ length bytes = length-set bytes at four.first in
    let l1 : length b1 ≡ length bytes = length-set b0 (at + 1) four.second ∙ l0 in
    let l2 : length b2 ≡ length bytes = length-set b1 (at + 2) four.third ∙ l1 in
    let b3 = set b2 (at + 3) four.fourth in
    let first : get_or b3 at 0 ≡ four.first
    = get_or-set_other b2 (at + 3) at _ 0 (λ e. absurd (omega arith)) ∙ get_or-set_other b1 (at + 2) at _ 0 (λ e. absurd (omega arith))
    ∙ get_or-set_other b0 (at + 1) at _ 0 (λ e. absurd (omega arith)) ∙ get_or-set_same bytes at _ 0 (omega arith) in
    let second : get_or b3 (at + 1) 0 ≡ four.second
    = get_or-set_other b2 (at + 3) (at + 1) _ 0 (λ e. absurd (omega arith)) ∙ get_or-set_other b1 (at + 2) (at + 1) _ 0 (λ e. absurd (omega arith))
    ∙ get_or-set_same b0 (at + 1) _ 0 (omega arith) in
    let third : get_or b3 (at + 2) 0 ≡ four.third
    = get_or-set_other b2 (at + 3) (at + 2) _ 0 (λ e. absurd (omega arith)) ∙ get_or-set_same b1 (at + 2) _ 0 (omega arith) in
    let fourth : get_or b3 (at + 3) 0 ≡ four.fourth = get_or-set_same b2 (at + 3) _ 0 (omega arith) in
    rw (first, second, third, fourth) refl

records_later : (bytes : List ℕ) (place : ℕ) (four : Four) (index many : ℕ) → place < index → records_from (put_four bytes (place * 4) four) index many ≡ records_from bytes index many
unfolding items_from
records_later bytes place four index zero before = refl
records_later bytes place four index (suc many) before =
    let n : place ≢ index = λ e. absurd (omega arith) in
    rw (put_other bytes place four index n) (ap (λ (l : List ℕ). word_at bytes (index * 4) ∷ l) (records_later bytes place four (index + 1) many (omega arith)))

records_put : (bytes : List ℕ) (four : Four) (index many on : ℕ) → on < many → (index + on) * 4 + 3 < length bytes
    → records_from (put_four bytes ((index + on) * 4) four) index many ≡ set (records_from bytes index many) on (number_in four)
unfolding items_from
records_put bytes four index zero on below within = absurd (omega arith)
records_put bytes four index (suc many) zero below within =
    subst (λ (k : ℕ). records_from (put_four bytes (k * 4) four) index (suc many) ≡ set (records_from bytes index (suc many)) 0 (number_in four)) (sym (add-zero index))
    (rw (put_same bytes index four (omega arith)) (ap (λ (l : List ℕ). number_in four ∷ l) (records_later bytes index four (index + 1) many (omega arith))))
records_put bytes four index (suc many) (suc on) below within =
    let n : index + suc on ≢ index = λ e. absurd (omega arith) in
    let later : index + suc on ≡ index + 1 + on = omega arith in
    rw (put_other bytes (index + suc on) four index n) (ap (λ (l : List ℕ). word_at bytes (index * 4) ∷ l) (subst (λ (k : ℕ). records_from (put_four bytes (k * 4) four) (index + 1) many ≡ set (records_from bytes (index + 1) many) on (number_in four)) (sym later) (records_put bytes four (index + 1) many on (omega arith) (omega arith))))

records_get : (bytes : List ℕ) (index many on : ℕ) → on < many → get_or (records_from bytes index many) on 0 ≡ word_at bytes ((index + on) * 4)
unfolding items_from
records_get bytes index zero on below = absurd (omega arith)
records_get bytes index (suc many) zero below = rw (add-zero) refl
records_get bytes index (suc many) (suc on) below =
    let later : index + suc on ≡ index + 1 + on = omega arith in
    rw later (records_get bytes (index + 1) many on (omega arith))

-- a word of the memory, and the memory's words after one is put
module _ (bytes : List ℕ) (place : ℕ) (below : place < whole_records bytes) where
  pub word_in : get_or (words_in bytes) place 0 ≡ word_at bytes (place * 4)
  word_in = records_get bytes 0 (whole_records bytes) place below ∙ rw (zero-add) refl

  pub words_put : (word : ℕ) → word < 2 ^ 32 → words_in (put_word bytes (place * 4) word) ≡ set (words_in bytes) place word
  unfolding put_word
  words_put word h =
      let four = high_first word in
      rw (put_length bytes (place * 4) word)
      (let z : 0 + place ≡ place = omega arith in
      subst (λ (k : ℕ). records_from (put_four bytes (k * 4) four) 0 (whole_records bytes) ≡ set (words_in bytes) place word) z
      (subst (λ (k : ℕ). records_from (put_four bytes ((0 + place) * 4) four) 0 (whole_records bytes) ≡ set (words_in bytes) place k) (word_again word h)
      (records_put bytes four 0 (whole_records bytes) place below (omega arith))))
