-- Order 1, never apart: the condition is needed. Without it for the one flag or for the other, though it is kept for the other one, a trace leaves the
-- halves of a pair apart: Examples.antt and FullExamples.antt.
use Rattle.std.specs.Prelude.{ℕ, Bool, false, ◌≡◌, refl, length}
use Rattle.std.proofs.Math.Bool.{true, cond, and-eq-true_iff}
use Rattle.std.proofs.Common.{true≢false, sym, ◌∙◌, arith}
use mathlib.Core.List.{List, [], ◌∷◌}
use Rattle.std.proofs.Math.Path.{ap, subst}
use Rattle.std.proofs.lemmas.List.{length-replicate}
use borrow.Author.Tests.{eq-eqb, eqb-true}
use Rattle.counts.specs.declared.part.Part.{Part}
use Rattle.counts.specs.declared.part.Part.TheVariants.{Idt72V255LA as part255}
use Rattle.counts.specs.Part.{depth_of}
use Rattle.joint.specs.Composite.{composite_of}
use Rattle.fifo.specs.Sample.{record_refusal}
use Rattle.joint.specs.Refuse.{numbered}
use Rattle.halves.specs.Refuse.{pair_refusal}
use Rattle.pair.specs.Sample.{After, is_taken}
use Rattle.pair.specs.SampleLaws.{step_numbered}
use Rattle.halves.specs.Two.{Two, two}
use Rattle.pins.specs.Record.{bit}
use Rattle.history.specs.Asked.{ShowsRoom, ShowsWord, taken_next}
use Rattle.history.specs.Onlooker.{tells_full, tells_ready}
use Rattle.history.specs.TakenLaws.{takes_free}
use Rattle.history.specs.Tight.{tried, zeros}
use Rattle.abreast.specs.Abreast.{Records, TakenSame}
use Rattle.abreast.specs.AwaitedLaws.{full_either, tell_both, word_both}
use Rattle.abreast.specs.Examples.{apart_by_ef, apart_by_or, read_by_ef, read_by_or}
use Rattle.abreast.specs.Filled.{filled_then}
use Rattle.abreast.specs.FullExamples.{apart_by_ff, apart_by_ir, write_by_ff, write_by_ir}
use Rattle.abreast.specs.Pairing.{EachOf, NeverApart, Pairing, RoomAwaited, WordAwaited, composite, halves_of, memories_of, pair_next, pair_takes, powered_both}
use Rattle.abreast.specs.PairingLaws.{Noting, Paired, pair_steps, paired_by, paired_next, taken_each, taken_told}
use Rattle.abreast.specs.Seen as seen
use Rattle.abreast.specs.Seen.{Seen, asks_to_read, asks_to_write, seen_from}

-- the composite shows what both parts show
record Composed (part : Part) (b : Pairing) : Type 0 where
  room : ShowsRoom part b.left → ShowsRoom part b.right → tells_full b.left.notes.fwft (composite b).ff ≡ false
  word : ShowsWord part b.left → ShowsWord part b.right → tells_ready b.left.notes.fwft (composite b).ef ≡ true

module _ (part : Part) (b : Pairing) (g : Paired part b) (x : Records) (taken : TakenSame part b.left b.right x) where
  free : pair_refusal part x (halves_of b) ≡ 0
  unfolding pair_refusal
  free =
      let left : record_refusal part x.left b.left.state ≡ 0 = eqb-true _ _ (sym (takes_free part b.left g.left_counts g.left x.left) ∙ taken.0) in
      let right : record_refusal part x.right b.right.state ≡ 0 = eqb-true _ _ (sym (takes_free part b.right g.right_counts g.right x.right) ∙ taken.1) in
      λ i. numbered (taken.2 i) (left i) (right i)

  pair_takes_lem : pair_takes part b x ≡ true
  unfolding pair_takes
  pair_takes_lem =
      ap (λ (a : After). is_taken a.sampled.outcome) (pair_steps part b g x)
      ∙ (step_numbered part x (halves_of b) (memories_of b)).takes ∙ eq-eqb _ _ free

  -- so after a sample that is taken
  composed_next : Composed part (pair_next part b x)
  unfolding composite_of
  composed_next =
      let told = tell_both part b g x pair_takes_lem in
      let mode = (paired_next part b g x).mode in
      let there = pair_next part b x in
      let fwft = there.left.notes.fwft in
      let left = there.answers.left in
      let right = there.answers.right in
      record {
        room = λ one other. (let also : tells_full fwft (bit 23 right) ≡ false = rw mode (told.1.room.1 other) in simp (full_either, told.0.room.1 one, also));
        word = λ one other. (let also : tells_ready fwft (bit 22 right) ≡ true = rw mode (told.1.word.1 other) in simp (word_both, told.0.word.1 one, also));
      }

module _ (part : Part) where
  -- what the tests of a trace tell of the pair
  record Lifted (b : Pairing) (many : Two ℕ) (xs : List Records) (v : Seen) : Type 0 where
    room : v.room ≡ true → EachOf part (RoomAwaited part) b xs
    word : v.word ≡ true → EachOf part (WordAwaited part) b xs
    equal : NeverApart part b many xs → (v.accepted.0 ≡ v.accepted.1) × (v.taken.0 ≡ v.taken.1)

  -- the composite tells where the first sample asks for anything, which a reset does not
  abbrev Opening : Pairing → List Records → Type 0
  Opening b [] = Unit {0}
  Opening b (x ∷ xs) = (asks_to_write part b.left x ≡ true → Composed part b) × (asks_to_read part b.left x ≡ true → Composed part b)

  opening : (b : Pairing) (xs : List Records) → Composed part b → Opening b xs
  opening b [] composed = tt
  opening b (x ∷ xs) composed = (λ asked. composed, λ asked. composed)

  lifted : (xs : List Records) (b : Pairing) (many : Two ℕ) → Paired part b → Opening b xs
      → let v = seen_from part b.left many.left b.right many.right xs in v.together ≡ true → Lifted b many xs v
  unfolding seen_from
  lifted [] b many g composed e = record { room = λ h. tt; word = λ h. tt; equal = λ never. (never.accepted, never.taken) }
  lifted (x ∷ xs) b many g composed e =
      let now = (and-eq-true_iff _ _).0 e in
      let taken = seen.taken_told part b.left b.right x now.0 in
      let takes = pair_takes_lem part b g x taken in
      let each = taken_each part b g x (taken_told part b g x takes) in
      let n = taken_next part b.left x.left many.left in
      let k = taken_next part b.right x.right many.right in
      let rest =
      subst (λ (v : Seen). v.together ≡ true → Lifted (pair_next part b x) (two n k) xs v)
      (λ i. seen_from part (each.left_next i) n (each.right_next i) k xs)
      (lifted xs (pair_next part b x) (two n k) (paired_next part b g x) (opening (pair_next part b x) xs (composed_next part b g x taken))) now.1 in
      record {
        room = λ h. (let both = (and-eq-true_iff _ _).0 h in
            (λ is asked. (let heeded = seen.room_told part b.left b.right x both.0 asked in (composed.0 asked).room heeded.0 heeded.1), rest.room both.1));
        word = λ h. (let both = (and-eq-true_iff _ _).0 h in
            (λ is asked. (let heeded = seen.word_told part b.left b.right x both.0 asked in (composed.1 asked).word heeded.0 heeded.1), rest.word both.1));
        equal = λ never.
            rest.equal (subst (λ (numbers : Two ℕ). NeverApart part (pair_next part b x) numbers xs) (λ i. cond (takes i) (two n k) many) never.1);
      }

abbrev memories : Two (List ℕ)
memories = two zeros zeros

zeros_deep : length zeros ≡ depth_of part255
unfolding zeros
zeros_deep = length-replicate {A = ℕ} 8192 0

powered : Noting part255 → Paired part255 (powered_both memories)
powered noting = paired_by part255 noting memories zeros_deep zeros_deep

opens_ef : Opening part255 (powered_both memories) read_by_ef
unfolding tried powered_both read_by_ef
opens_ef = (λ e. absurd (true≢false (sym e)), λ e. absurd (true≢false (sym e)))

opens_or : Opening part255 (powered_both memories) read_by_or
unfolding tried powered_both read_by_or
opens_or = (λ e. absurd (true≢false (sym e)), λ e. absurd (true≢false (sym e)))

opens_filled : (fwft : Bool) (later : List Records) → Opening part255 (powered_both memories) (filled_then fwft later)
unfolding tried powered_both
opens_filled true later = (λ e. absurd (true≢false (sym e)), λ e. absurd (true≢false (sym e)))
opens_filled false later = (λ e. absurd (true≢false (sym e)), λ e. absurd (true≢false (sym e)))

told : Noting part255 → (samples : List Records) {v : Seen} → Opening part255 (powered_both memories) samples → seen.seen samples ≡ v → v.together ≡ true
    → Lifted part255 (powered_both memories) (two 0 0) samples v
unfolding powered_both
told noting samples opens e =
    subst (λ (v : Seen). v.together ≡ true → Lifted part255 (powered_both memories) (two 0 0) samples v) e
    (lifted part255 samples (powered_both memories) (two 0 0) (powered noting) opens)

-- samples from power-up that leave the halves apart, though each of them heeds this
abbrev ApartBy : (Pairing → Records → Type 0) → List Records → Type 0
ApartBy Heeds samples =
    EachOf part255 Heeds (powered_both memories) samples × (NeverApart part255 (powered_both memories) (two 0 0) samples → ⊥)

apart_ef : Noting part255 → ApartBy (RoomAwaited part255) read_by_ef
apart_ef noting = let t = told noting read_by_ef opens_ef apart_by_ef refl in (t.room refl, λ never. (let same = (t.equal never).1 in absurd (omega (arith, same))))

apart_ff : Noting part255 → ApartBy (WordAwaited part255) (filled_then false write_by_ff)
apart_ff noting =
    let t = told noting (filled_then false write_by_ff) (opens_filled false write_by_ff) apart_by_ff refl in
    (t.word refl, λ never. (let same = (t.equal never).0 in absurd (omega (arith, same))))

-- a read by the left part's EF alone, or by its OR
pub by_ef : ApartBy (RoomAwaited part255) read_by_ef
by_ef = apart_ef (λ b x a. refl)

pub by_or : ApartBy (RoomAwaited part255) read_by_or
by_or = let t = told (λ b x a. refl) read_by_or opens_or apart_by_or refl in (t.room refl, λ never. (let same = (t.equal never).1 in absurd (omega (arith, same))))

-- a write by the left part's FF alone, or by its IR
pub by_ff : ApartBy (WordAwaited part255) (filled_then false write_by_ff)
by_ff = apart_ff (λ b x a. refl)

pub by_ir : ApartBy (WordAwaited part255) (filled_then true write_by_ir)
by_ir =
    let t = told (λ b x a. refl) (filled_then true write_by_ir) (opens_filled true write_by_ir) apart_by_ir refl in
    (t.word refl, λ never. (let same = (t.equal never).0 in absurd (omega (arith, same))))

-- so the user has to wait for both parts' EF or OR
pub word_needed : ((memory : Two (List ℕ)) → length memory.left ≡ depth_of part255 → length memory.right ≡ depth_of part255 → (samples : List Records)
    → EachOf part255 (RoomAwaited part255) (powered_both memory) samples → NeverApart part255 (powered_both memory) (two 0 0) samples) → ⊥
word_needed never = let apart = apart_ef (λ b x a. refl) in apart.1 (never memories zeros_deep zeros_deep read_by_ef apart.0)

-- and for both parts' FF or IR
pub room_needed : ((memory : Two (List ℕ)) → length memory.left ≡ depth_of part255 → length memory.right ≡ depth_of part255 → (samples : List Records)
    → EachOf part255 (WordAwaited part255) (powered_both memory) samples → NeverApart part255 (powered_both memory) (two 0 0) samples) → ⊥
room_needed never =
    let apart = apart_ff (λ b x a. refl) in apart.1 (never memories zeros_deep zeros_deep (filled_then false write_by_ff) apart.0)
