-- Order 4, by the public operations: calls one after the other lead a list of parts where the records that they worked lead the chain.
use Rattle.std.specs.Prelude.{ℕ, Bool, true, false, cond, ◌≡◌, eqb, length}
use mathlib.Core.List.{List, [], ◌∷◌, ◌++◌, map}
use Rattle.std.proofs.Math.Path.{refl, ap, subst}
use Rattle.std.proofs.Common.{sym, ◌∙◌, arith}
use Rattle.chain_work.specs.Records.{links_at, whole_records}
use Rattle.counts.specs.declared.part.Part.{Part}
use Rattle.links.specs.declared.record.Links.{Links}
use Rattle.linked.specs.Chaining.{Chain, Narrow, chain_led}
use Rattle.linked.specs.Listed.{Call, Listed, Parts, called, called_all, run_over, whole_of, worked_all, worked_in}
use Rattle.linked.specs.Listed.Call.{OneRun, OneSample}
use Rattle.linked.specs.ListedLaws.{listed_sample}
use Rattle.linked.specs.ListedRunLaws.{listed_run}
use Rattle.linked.specs.RunLaws.{led_parts, narrow_both, records_narrow}

sample_narrow : (seven : Bool) (bytes : List ℕ) → Narrow (cond seven (links_at bytes 0 ∷ []) [])
sample_narrow true bytes = (omega arith, tt)
sample_narrow false bytes = tt

before_by : (seven : Bool) (x : Links) (xs : List Links) → cond seven (x ∷ []) [] ++ xs ≡ cond seven (x ∷ xs) xs
before_by true x xs = refl
before_by false x xs = refl

module _ (part : Part) where
  -- D of a record that is read from bytes has 18 bits
  call_narrow : (l : Parts) (call : Call) → Narrow (worked_in part l call)
  call_narrow l (OneSample bytes) = sample_narrow (eqb (length bytes) 7) bytes
  call_narrow l (OneRun lenient bytes answers marks) = records_narrow bytes (run_over part l lenient bytes answers marks).index 0 (whole_records bytes)

  pub calls_narrow : (calls : List Call) (l : Parts) → Narrow (worked_all part l calls)
  unfolding worked_all
  calls_narrow [] l = tt
  calls_narrow (call ∷ more) l =
      narrow_both (worked_in part l call) (worked_all part (called part l call) more) (call_narrow l call) (calls_narrow more (called part l call))

  -- Of samples alone the records worked are those of seven bytes.
  pub samples_worked : (samples : List (List ℕ)) (l : Parts) → worked_all part l (map OneSample samples) ≡ whole_of samples
  unfolding worked_all whole_of
  samples_worked [] l = refl
  samples_worked (bytes ∷ more) l =
      ap (λ (xs : List Links). worked_in part l (OneSample bytes) ++ xs) (samples_worked more (called part l (OneSample bytes)))
      ∙ before_by (eqb (length bytes) 7) (links_at bytes 0) (whole_of more)

  -- A call more.
  pub called_more : (calls : List Call) (call : Call) (l : Parts)
      → called_all part l (calls ++ (call ∷ [])) ≡ called part (called_all part l calls) call
  unfolding called_all
  called_more [] call l = refl
  called_more (first ∷ more) call l = called_more more call (called part l first)

  module _ (n : ℕ) where
    listed_call : (l : Parts) (c : Chain) → Listed part n l c → (call : Call)
        → Listed part n (called part l call) (chain_led part c (worked_in part l call))
    listed_call l c h (OneSample bytes) = listed_sample part n l c h bytes
    listed_call l c h (OneRun lenient bytes answers marks) = listed_run part n l c h lenient bytes answers marks

    pub listed_calls : (calls : List Call) (l : Parts) (c : Chain) → Listed part n l c
        → Listed part n (called_all part l calls) (chain_led part c (worked_all part l calls))
    unfolding called_all worked_all chain_led
    listed_calls [] l c h = h
    listed_calls (call ∷ more) l c h =
        let first = worked_in part l call in
        let there = called part l call in
        subst (Listed part n (called_all part there more)) (sym (led_parts part first (worked_all part there more) c))
        (listed_calls more there (chain_led part c first) (listed_call l c h call))
