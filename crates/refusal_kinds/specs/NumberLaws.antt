-- No two refusals have one number, and none has 0: a promise of the number is one of the refusal itself.
use Rattle.std.specs.Prelude.{ℕ, ◌≡◌, ◌≢◌, cond, eqb, Option, None, Some, Result, Ok, Err}
use Rattle.std.specs.Option.{option_or}
use borrow.Author.Tests.{ne_eqb}
use Rattle.std.proofs.Common.{refl, sym, ap, ◌∙◌, arith}
use Rattle.refusal_kinds.specs.declared.Refusal.{Refusal}
use Rattle.refusal_kinds.specs.declared.Refusal.TheVariants.{UnknownPart, WrongLength, UnfitState, UnreadableRecord, NoMasterReset, SeveralEnables, MethodNotSelected, UncleanRetransmit, RetransmitTooFewOrMany, WriteBeforeRetransmitSeen, PinsDiffer, UnsettledData, WrongPartCount, NotInChain}
use Rattle.refusal_kinds.specs.Numbers.{code_of, number, number_of, of_number}

own_refusal : (r : Refusal) → of_number (number r) ≡ Some r
own_refusal UnknownPart = refl
own_refusal WrongLength = refl
own_refusal UnfitState = refl
own_refusal UnreadableRecord = refl
own_refusal NoMasterReset = refl
own_refusal SeveralEnables = refl
own_refusal MethodNotSelected = refl
own_refusal UncleanRetransmit = refl
own_refusal RetransmitTooFewOrMany = refl
own_refusal WriteBeforeRetransmitSeen = refl
own_refusal PinsDiffer = refl
own_refusal UnsettledData = refl
own_refusal WrongPartCount = refl
own_refusal NotInChain = refl

-- each number gives its refusal back
pub own_number : (r : Option Refusal) → of_number (number_of r) ≡ r
own_number None = refl
own_number (Some r) = own_refusal r

pub by_number : {r : Option Refusal} {n : ℕ} → number_of r ≡ n → r ≡ of_number n
by_number e = sym (own_number _) ∙ ap of_number e

pub number_of_injective : (a b : Option Refusal) → number_of a ≡ number_of b → a ≡ b
number_of_injective a b e = sym (own_number a) ∙ ap of_number e ∙ own_number b

some_injective : {a b : Refusal} → ◌≡◌ {A = Option Refusal} (Some a) (Some b) → a ≡ b
some_injective e = cc

pub number_injective : (a b : Refusal) → number a ≡ number b → a ≡ b
number_injective a b e = some_injective (number_of_injective (Some a) (Some b) e)

pub number_some : (r : Refusal) → number r ≢ 0
number_some UnknownPart e = absurd (omega (arith, e))
number_some WrongLength e = absurd (omega (arith, e))
number_some UnfitState e = absurd (omega (arith, e))
number_some UnreadableRecord e = absurd (omega (arith, e))
number_some NoMasterReset e = absurd (omega (arith, e))
number_some SeveralEnables e = absurd (omega (arith, e))
number_some MethodNotSelected e = absurd (omega (arith, e))
number_some UncleanRetransmit e = absurd (omega (arith, e))
number_some RetransmitTooFewOrMany e = absurd (omega (arith, e))
number_some WriteBeforeRetransmitSeen e = absurd (omega (arith, e))
number_some PinsDiffer e = absurd (omega (arith, e))
number_some UnsettledData e = absurd (omega (arith, e))
number_some WrongPartCount e = absurd (omega (arith, e))
number_some NotInChain e = absurd (omega (arith, e))

pub code_of_injective : (a b : Result (Unit {0}) Refusal) → code_of a ≡ code_of b → a ≡ b
code_of_injective (Ok done) (Ok also) e = refl
code_of_injective (Ok done) (Err b) e = absurd (number_some b (sym e))
code_of_injective (Err a) (Ok done) e = absurd (number_some a e)
code_of_injective (Err a) (Err b) e = ap Err (number_injective a b e)

-- of two the one that stands first
pub number_of_or : (a b : Option Refusal) → number_of (option_or a b) ≡ cond (eqb (number_of a) 0) (number_of b) (number_of a)
number_of_or None b = refl
number_of_or (Some r) b = simp (ne_eqb (number r) 0 (number_some r))
