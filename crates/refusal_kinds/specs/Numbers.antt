-- What is turned away: the number of each refusal in the table, 0 where there is none.
use Rattle.std.specs.Prelude.{ℕ, List, [], ◌∷◌, Option, None, Some, Result, Ok, Err, get_or}
use Rattle.refusal_kinds.specs.declared.Refusal.{Refusal}
use Rattle.refusal_kinds.specs.declared.Refusal.TheVariants.{UnknownPart, WrongLength, UnfitState, UnreadableRecord, NoMasterReset, SeveralEnables, MethodNotSelected, UncleanRetransmit, RetransmitTooFewOrMany, WriteBeforeRetransmitSeen, PinsDiffer, UnsettledData, WrongPartCount, NotInChain}

abbrev pub number : Refusal → ℕ
number UnknownPart = 1
number WrongLength = 2
number UnfitState = 3
number UnreadableRecord = 4
number NoMasterReset = 5
number SeveralEnables = 6
number MethodNotSelected = 7
number UncleanRetransmit = 8
number RetransmitTooFewOrMany = 9
number WriteBeforeRetransmitSeen = 10
number PinsDiffer = 11
number UnsettledData = 12
number WrongPartCount = 13
number NotInChain = 14

abbrev pub number_of : Option Refusal → ℕ
number_of None = 0
number_of (Some refusal) = number refusal

-- of what C calls, by its code
abbrev pub code_of : Result (Unit {0}) Refusal → ℕ
code_of (Ok done) = 0
code_of (Err refusal) = number refusal

-- and back: the refusals by their numbers, of which 0 is none, as a number without a refusal is
abbrev pub in_order : List (Option Refusal)
in_order =
    None ∷ Some UnknownPart ∷ Some WrongLength ∷ Some UnfitState ∷ Some UnreadableRecord ∷ Some NoMasterReset ∷ Some SeveralEnables
    ∷ Some MethodNotSelected ∷ Some UncleanRetransmit ∷ Some RetransmitTooFewOrMany ∷ Some WriteBeforeRetransmitSeen ∷ Some PinsDiffer
    ∷ Some UnsettledData ∷ Some WrongPartCount ∷ Some NotInChain ∷ []

abbrev pub of_number : ℕ → Option Refusal
of_number n = get_or in_order n None
