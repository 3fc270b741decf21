-- Order 4: the memories of a chain stand one after the other in one list of words. What a sample of one part makes of its own words, and
-- that it leaves all others.
use Rattle.std.specs.Prelude.{ℕ, suc, ◌+◌, ◌*◌, ◌≤◌, ◌<◌, ◌&&◌, List, ◌++◌, ◌≡◌, refl, drop, length, take, Option, Some, None}
use Rattle.chip.specs.declared.advance.Put.{Put}
use Rattle.std.proofs.Common.{sym, ◌∙◌, length-append, length-drop, take-append-drop, drop_at, drop-drop, drop-set-lt, get_or-take, length-take-le, mod-lt, mul-le-mul_right, suc-mul, arith}
use Rattle.std.proofs.Math.Path.{ap}
use Rattle.std.proofs.lemmas.List.{drop-append-le, take-append-le}
use Rattle.std.proofs.Math.Seq.{take-set-lt}
use Rattle.chip.specs.declared.state.State.{State}
use Rattle.chip.specs.Advance.{advanced, store_of, stored}
use Rattle.counts.specs.declared.part.Part.{Part}
use Rattle.counts.specs.Either.{either}
use Rattle.counts.specs.Part.{depth_of}
use Rattle.counts.specs.Round.{place_of}
use Rattle.counts.specs.Sized.{part_sized}
use Rattle.fifo.specs.Sample.{taken}
use Rattle.fifo.specs.SampleLaws.{stored_length}
use Rattle.pins.specs.declared.record.Pins.{Pins}
use Rattle.pins.specs.Record.{word}
use Rattle.sides.specs.Write.{accepts}

-- the words of part i
unfoldable pub own_words : Part → List ℕ → ℕ → List ℕ
own_words part memory i = take (depth_of part) (drop (i * depth_of part) memory)

-- room for one part more
pub one_more : (depth i n : ℕ) → i < n → i * depth + depth ≤ n * depth
one_more depth i n l = omega (arith, mul-le-mul_right {m = suc i} {n = n} depth l, suc-mul i depth)

pub own_length : (part : Part) (memory : List ℕ) (i n : ℕ) → length memory ≡ n * depth_of part → i < n → length (own_words part memory i) ≡ depth_of part
unfolding own_words
own_length part memory i n whole l =
    length-take-le (depth_of part) (drop (i * depth_of part) memory)
    (omega (arith, length-drop (i * depth_of part) memory, one_more (depth_of part) i n l))

-- words below a place, and those from it on, when only the latter are changed
below_kept : (place from many : ℕ) (l r : List ℕ) → from + many ≤ place → place ≤ length l
    → take many (drop from (take place l ++ r)) ≡ take many (drop from l)
below_kept place from many l r h fits =
    let short = length-take-le place l fits in
    let parts : (q : List ℕ) → take many (drop from (take place l ++ q)) ≡ take many (drop from (take place l)) =
    λ q. ap (take many) (drop-append-le from (take place l) q (omega arith))
    ∙ take-append-le many (drop from (take place l)) q (omega (arith, length-drop from (take place l))) in
    parts r ∙ sym (parts (drop place l)) ∙ ap (λ (m : List ℕ). take many (drop from m)) (take-append-drop place l)

-- what is stored goes to a place of the part's own
abbrev Below : ℕ → Option Put → Type 0
Below depth None = Unit {0}
Below depth (Some put) = put.place < depth

store_below : (part : Part) (p : Pins) (s : State) → Below (depth_of part) (store_of part p s)
unfolding store_of
store_below part p s =
    either (Below (depth_of part)) (p.mrs && p.prs && accepts (depth_of part) p s.write)
    (Some (record { place = place_of (depth_of part) s.write.count.0; word = word p.d })) None (mod-lt s.write.count.0 (part_sized part).some) tt

stored_own : (depth : ℕ) (store : Option Put) (l : List ℕ) → Below depth store
    → (take depth (stored store l) ≡ stored store (take depth l)) × (drop depth (stored store l) ≡ drop depth l)
stored_own depth None l b = (refl, refl)
stored_own depth (Some put) l b = (take-set-lt depth l put.place put.word b, drop-set-lt depth l put.place put.word b)

-- a sample of one part on words of which only the first are its own
pub record OwnOnly (part : Part) (p : Pins) (s : State) (l : List ℕ) : Type 0 where
  pub state : (taken part p s l).sampled.state ≡ (taken part p s (take (depth_of part) l)).sampled.state
  pub words : take (depth_of part) (taken part p s l).memory ≡ (taken part p s (take (depth_of part) l)).memory
  pub others : drop (depth_of part) (taken part p s l).memory ≡ drop (depth_of part) l
  pub size : length (taken part p s l).memory ≡ length l

pub own_only : (part : Part) (p : Pins) (s : State) (l : List ℕ) → OwnOnly part p s l
unfolding taken advanced
own_only part p s l =
    let depth = depth_of part in
    let place = place_of depth s.read.count.0 in
    let fetched = get_or-take depth l place 0 (mod-lt s.read.count.0 (part_sized part).some) in
    let both = stored_own depth (store_of part p s) l (store_below part p s) in
    record {
      state = ap (λ (word : ℕ). (advanced part p word s).state) (sym fetched);
      words = both.0;
      others = both.1;
      size = stored_length (store_of part p s) l;
    }

-- the words before a place as they were, and from it on the part's own and those behind them
module _ (part : Part) (p : Pins) (s : State) (memory : List ℕ) (i n : ℕ) (whole : length memory ≡ n * depth_of part) (l : i < n) where
  abbrev depth : ℕ
  depth = depth_of part

  abbrev base : ℕ
  base = i * depth

  abbrev after : List ℕ
  after = take base memory ++ (taken part p s (drop base memory)).memory

  reaches : base + depth ≤ length memory
  reaches = omega (arith, one_more depth i n l)

  front : length (take base memory) ≡ base
  front = length-take-le base memory (omega (arith, reaches))

  pub after_length : length after ≡ length memory
  after_length =
      omega (
        arith,
        length-append (take base memory) (taken part p s (drop base memory)).memory,
        front,
        (own_only part p s (drop base memory)).size,
        length-drop base memory,
        reaches,
      )

  pub after_own : own_words part after i ≡ (taken part p s (own_words part memory i)).memory
  unfolding own_words
  after_own =
      ap (take depth) (drop_at (take base memory) (taken part p s (drop base memory)).memory base front)
      ∙ (own_only part p s (drop base memory)).words

  pub after_earlier : (k : ℕ) → k < i → own_words part after k ≡ own_words part memory k
  unfolding own_words
  after_earlier k before =
      below_kept base (k * depth) depth memory (taken part p s (drop base memory)).memory (one_more depth k i before) (omega (arith, reaches))

  pub after_further : drop (suc i * depth) after ≡ drop (suc i * depth) memory
  after_further =
      let own = own_only part p s (drop base memory) in
      rw (suc-mul i depth)
      (sym (drop-drop depth base after) ∙ ap (drop depth) (drop_at (take base memory) (taken part p s (drop base memory)).memory base front)
      ∙ own.others ∙ drop-drop depth base memory)
