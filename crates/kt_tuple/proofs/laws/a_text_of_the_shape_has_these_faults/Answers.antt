use Rattle.kt_tuple.specs.Grammar.{IsValueText, actual, IsPlaceText}
use Rattle.kt_tuple.specs.Reading.{value_at, place_at}
use Rattle.kt_tuple.proofs.PlaceShapes.{values_shape, places_shape}
use Rattle.kt_tuple.proofs.TextFaults.{range_outside, too_long_inside}
use Rattle.kt_tuple.proofs.Exact.{outside_range, long_too_long, none_accepted, accepted_none}
use Rattle.kt_tuple.proofs.ByShape.{outside_to, outside_from, long_to, long_from, fine_to, fine_from}
use Rattle.kt_tuple.proofs.laws.a_text_of_the_shape_has_these_faults.Goals as goal

pub returns : goal.returns
returns c = record {
  tuple_range =
      λ text at. (
        λ e. outside_to IsValueText (λ p h. actual h) text at (range_outside value_at IsValueText values_shape text at e),
        λ h. outside_range value_at IsValueText values_shape text at (outside_from IsValueText (λ p h. actual h) text at h),
      );
  tuple_too_long =
      λ text. (
        λ e. long_to IsValueText (λ p h. actual h) text (too_long_inside value_at IsValueText values_shape text e),
        λ h. long_too_long value_at IsValueText values_shape text (long_from IsValueText (λ p h. actual h) text h),
      );
  tuple_accepted =
      λ text. (
        λ e. fine_to IsValueText (λ p h. actual h) text (none_accepted value_at IsValueText values_shape text e),
        λ h. accepted_none value_at IsValueText values_shape text (fine_from IsValueText (λ p h. actual h) text h),
      );
  template_range =
      λ text at. (
        λ e. outside_to IsPlaceText (λ p h. h) text at (range_outside place_at IsPlaceText places_shape text at e),
        λ h. outside_range place_at IsPlaceText places_shape text at (outside_from IsPlaceText (λ p h. h) text at h),
      );
  template_too_long =
      λ text. (
        λ e. long_to IsPlaceText (λ p h. h) text (too_long_inside place_at IsPlaceText places_shape text e),
        λ h. long_too_long place_at IsPlaceText places_shape text (long_from IsPlaceText (λ p h. h) text h),
      );
  template_accepted =
      λ text. (
        λ e. fine_to IsPlaceText (λ p h. h) text (none_accepted place_at IsPlaceText places_shape text e),
        λ h. accepted_none place_at IsPlaceText places_shape text (fine_from IsPlaceText (λ p h. h) text h),
      );
}
