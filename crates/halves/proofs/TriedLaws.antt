-- The loop over the two halves: those before a side are tried, the others not yet.
use Prim.Native.Nat.{ℕ, zero, suc, ◌+◌, ◌≤◌, ◌<◌}
use mathlib.Core.Bool.{true}
use mathlib.Core.List.{List, [], ◌∷◌}
use mathlib.Core.Path.{◌≡◌, refl, ap, ◌∙◌}
use lib.ListN.{get_or, set}
use native.Mathlib.Omega.{arith}
use Rattle.chip.specs.State.{widths}
use Rattle.counts.specs.declared.part.Part.{Part}
use Rattle.halves.specs.declared.tried.Trial.{Trial}
use Rattle.halves.specs.Tried.{tried}

abbrev pub tried_to : Part → ℕ → List Trial → List Trial
tried_to part zero trials = trials
tried_to part (suc side) [] = []
tried_to part (suc side) (t ∷ trials) = tried part t ∷ tried_to part side trials

pub record Going (part : Part) (trials both : List Trial) (side : ℕ) : Type 0 where
  pub most : side ≤ 2
  pub done : both ≡ tried_to part side trials

module _ (part : Part) (left right other : Trial) where
  wide_by : (side : ℕ) → side < 2 → widths part left.advanced.state ≡ true → widths part right.advanced.state ≡ true
      → widths part (get_or (tried_to part side (left ∷ right ∷ [])) side other).advanced.state ≡ true
  wide_by zero b e f = e
  wide_by (suc zero) b e f = f
  wide_by (suc (suc side)) b e f = absurd (omega (arith, b))

  turned_by : (side : ℕ) → side < 2
      → set (tried_to part side (left ∷ right ∷ [])) side (tried part (get_or (tried_to part side (left ∷ right ∷ [])) side other)) ≡ tried_to part (side + 1) (left ∷ right ∷ [])
  turned_by zero b = refl
  turned_by (suc zero) b = refl
  turned_by (suc (suc side)) b = absurd (omega (arith, b))

  module _ {both : List Trial} {side : ℕ} (g : Going part (left ∷ right ∷ []) both side) where
    pub wide_now : side < 2 → widths part left.advanced.state ≡ true → widths part right.advanced.state ≡ true
        → widths part (get_or both side other).advanced.state ≡ true
    wide_now b e f = rw g.done (wide_by side b e f)

    pub turned_now : side < 2 → {t : Trial} → t ≡ tried part (get_or both side other) → Going part (left ∷ right ∷ []) (set both side t) (side + 1)
    turned_now b e = record { most = omega (arith, b); done = rw (e, g.done) (turned_by side b) }

    pub ended_now : 2 ≤ side → both ≡ tried part left ∷ tried part right ∷ []
    ended_now b = let all : side ≡ 2 = omega (arith, b, g.most) in g.done ∙ ap (λ (n : ℕ). tried_to part n (left ∷ right ∷ [])) all
