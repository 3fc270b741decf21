-- The two sides, on the stages: what one side sees of the other after a sample; said once for both.
use Rattle.std.specs.Prelude.{Bool, true, false, cond, Option, None, Some, ◌≡◌, refl}
use Rattle.views.specs.Stages.{count_taken, rise_after}

-- `latest` is the other side's count that the latest remembered rise found, none where no rise is remembered
pub record Sight (Count : Type 0) : Type 0 where
  pub first : Count
  pub second : Count
  pub latest : Option Count

-- `own` and `other` tell which clock rises, `met` is the own skew mark, `now` the other side's count before the sample
pub record Crossed {Count : Type 0} (own other met : Bool) (now : Count) (sight after : Sight Count) : Type 0 where
  pub second : own ≡ true → after.second ≡ sight.first
  pub taken : own ≡ true → met ≡ true → after.first ≡ now
  pub ignored : own ≡ true → sight.latest ≡ None → after.first ≡ now
  pub missed : (before : Count) → own ≡ true → met ≡ false → sight.latest ≡ Some before → after.first ≡ before
  pub still : own ≡ false → (after.first ≡ sight.first) × (after.second ≡ sight.second)
  -- of two rises in one sample the other counts as later
  pub risen : other ≡ true → after.latest ≡ Some now
  pub passed : other ≡ false → own ≡ true → after.latest ≡ None
  pub kept : other ≡ false → own ≡ false → after.latest ≡ sight.latest

met_takes : {Count : Type 0} (latest : Option Count) (now : Count) → count_taken true latest now ≡ now
met_takes None now = refl
met_takes (Some count) now = refl

module _ {Count : Type 0} (own other met : Bool) (now : Count) (s : Sight Count) where
  pub crossed : Crossed own other met now s
      (record {
        first = cond own (count_taken met s.latest now) s.first;
        second = cond own s.first s.second;
        latest = rise_after own other now s.latest;
      })
  crossed = record {
    second = λ e. rw e;
    taken = λ e h. rw (e, h) (met_takes s.latest now);
    ignored = λ e l. rw (e, l);
    missed = λ before e h l. rw (e, h, l);
    still = λ e. rw e (refl, refl);
    risen = λ e. rw e;
    passed = λ e h. rw (e, h);
    kept = λ e h. rw (e, h);
  }
