-- Words in a list and in a memory that goes round.
use Rattle.std.specs.Prelude.{ℕ, zero, suc, ◌+◌, ◌-◌, ◌%◌, ◌≤◌, ◌<◌, Bool, true, false, cond, List, [], ◌∷◌, ◌++◌, ◌≡◌, refl, drop, get_or, length, set, take}
use Rattle.std.proofs.Common.{sym, ap, ◌∙◌, drop_of_length-le, length-append, drop-cons, get_or-set_other, get_or-set_same, take-suc, mod-lt, add-one, arith}
use Rattle.std.proofs.Math.ListN.{get_or-append}
use Rattle.std.proofs.Math.Seq.{get_or-append_seam}
use Rattle.std.proofs.lemmas.List.{take-append-le}
use Rattle.std.proofs.Math.Decide.{dec_lt}
use Rattle.std.proofs.Math.Nat.{mod-add-mod}
use Rattle.counts.specs.Round.{place_of}
use Rattle.counts.specs.Sized.{places_apart}
use Rattle.pins.specs.Record.{word}
use Rattle.history.specs.Onlooker.{last_of}
use Rattle.history.specs.Trace.{words_from}

-- the memory holds the last of the words accepted, as many as it is deep; each is of 18 bits
abbrev pub Holds : ℕ → List ℕ → List ℕ → Type 0
Holds depth memory accepted =
    (i : ℕ) → i < length accepted → length accepted ≤ i + depth
    → (get_or memory (place_of depth i) 0 ≡ get_or accepted i 0) × (word (get_or accepted i 0) ≡ get_or accepted i 0)

one_longer : (l : List ℕ) (x : ℕ) → length (l ++ (x ∷ [])) ≡ length l + 1
one_longer l x = length-append l (x ∷ [])

module _ (depth : ℕ) (memory accepted : List ℕ) (x : ℕ) (some : 0 < depth) (whole : length memory ≡ depth) (narrow : word x ≡ x)
    (h : Holds depth memory accepted) where
  holds_one_more : Holds depth (set memory (place_of depth (length accepted)) x) (accepted ++ (x ∷ []))
  holds_one_more i l near = go (dec_lt i (length accepted))
    where
      go : Dec (i < length accepted)
          → (get_or (set memory (place_of depth (length accepted)) x) (place_of depth i) 0 ≡ get_or (accepted ++ (x ∷ [])) i 0)
          × (word (get_or (accepted ++ (x ∷ [])) i 0) ≡ get_or (accepted ++ (x ∷ [])) i 0)
      go (yes earlier) =
          let far = places_apart depth i (length accepted) earlier (omega (arith, one_longer accepted x)) in
          let old = h i earlier (omega (arith, one_longer accepted x)) in
          rw (get_or-append accepted (x ∷ []) 0 i earlier)
          (get_or-set_other memory (place_of depth (length accepted)) (place_of depth i) x 0 far ∙ old.0, old.1)
      go (no later) =
          let last : i ≡ length accepted = omega (arith, one_longer accepted x) in
          rw (last, get_or-append_seam accepted x [] 0)
          (get_or-set_same memory (place_of depth (length accepted)) x 0 (omega (arith, mod-lt (length accepted) {m = depth} some)), narrow)

  pub holds_after : (one : Bool) (place : ℕ) → place ≡ place_of depth (length accepted)
      → Holds depth (cond one (set memory place x) memory) (cond one (accepted ++ (x ∷ [])) accepted)
  holds_after true place e = rw e holds_one_more
  holds_after false place e = h

pub length_after : (one : Bool) (l : List ℕ) (x n : ℕ) → length l ≡ n → length (cond one (l ++ (x ∷ [])) l) ≡ cond one (n + 1) n
length_after true l x n e = one_longer l x ∙ ap (λ (many : ℕ). many + 1) e
length_after false l x n e = e

pub last_after : (l : List ℕ) (x : ℕ) → x ≡ last_of (l ++ (x ∷ []))
last_after l x =
    let place : length (l ++ (x ∷ [])) - 1 ≡ length l = omega (arith, one_longer l x) in
    rw place (sym (get_or-append_seam l x [] 0))

pub take_after : (one : Bool) (l : List ℕ) (x n : ℕ) → n ≤ length l → take n (cond one (l ++ (x ∷ [])) l) ≡ take n l
take_after true l x n h = take-append-le n l (x ∷ []) h
take_after false l x n h = refl

-- one word more delivered is the next of those accepted
pub delivered_after : (one : Bool) (accepted delivered : List ℕ) (n x : ℕ) → delivered ≡ take n accepted
    → (one ≡ true → (n < length accepted) × (x ≡ get_or accepted n 0)) → cond one (delivered ++ (x ∷ [])) delivered ≡ take (cond one (n + 1) n) accepted
delivered_after true accepted delivered n x e h = rw (e, (h refl).1, add-one n) (sym (take-suc accepted n 0 (h refl).0))
delivered_after false accepted delivered n x e h = e

-- what is left of the words accepted is what memory holds from the read place on
words_round : (depth : ℕ) (memory : List ℕ) (a b many : ℕ) → place_of depth a ≡ place_of depth b → words_from depth memory a many ≡ words_from depth memory b many
unfolding words_from
words_round depth memory a b zero e = refl
words_round depth memory a b (suc many) e =
    let on : place_of depth (a + 1) ≡ place_of depth (b + 1) = sym (mod-add-mod a depth 1) ∙ ap (λ (place : ℕ). (place + 1) % depth) e ∙ mod-add-mod b depth 1 in
    rw e (ap (λ (l : List ℕ). get_or memory (place_of depth b) 0 ∷ l) (words_round depth memory (a + 1) (b + 1) many on))

words_left : (depth : ℕ) (memory accepted : List ℕ) (read many : ℕ) → Holds depth memory accepted → read + many ≡ length accepted → many ≤ depth
    → words_from depth memory read many ≡ drop read accepted
unfolding words_from
words_left depth memory accepted read zero h e l = sym (drop_of_length-le accepted {i = read} (omega arith))
words_left depth memory accepted read (suc many) h e l =
    rw ((h read (omega arith) (omega arith)).0, words_left depth memory accepted (read + 1) many h (omega arith) (omega arith), add-one read)
    (sym (drop-cons accepted read 0 (omega arith)))

pub remainder_held : (depth : ℕ) (memory accepted : List ℕ) (count read many : ℕ) → Holds depth memory accepted → place_of depth count ≡ place_of depth read
    → read + many ≡ length accepted → many ≤ depth → words_from depth memory count many ≡ drop read accepted
remainder_held depth memory accepted count read many h e f l = words_round depth memory count read many e ∙ words_left depth memory accepted read many h f l
