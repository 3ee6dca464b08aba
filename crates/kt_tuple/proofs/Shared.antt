-- What the crates above may cite of these proofs.
pub use Rattle.kt_tuple.proofs.Homes.{Matches-signature}
pub use Rattle.kt_tuple.proofs.Nodes.{node_eq-refl, node_index-injective}
pub use Rattle.kt_tuple.proofs.Readers.{none_chosen}
pub use Rattle.kt_tuple.proofs.Strings.{all_printable, are_printable}
pub use Rattle.kt_tuple.proofs.IntLaws.{IsInt, IsPositive, int_of_some, int_spelled, int_taken, just_zero, negative, no_sign, own, positive}
pub use Rattle.kt_tuple.proofs.IntsRead.{int_at_int, int_of_decimal, signed_decimal_is_int}
pub use Rattle.kt_tuple.proofs.ValueLaws.{value_in_range, value_read_front, value_read_spelled, value_taken, word_taken}
pub use Rattle.kt_tuple.proofs.ValuesRead.{value_at_text, value_of_text}
pub use Rattle.kt_tuple.proofs.PlaceLaws.{value_first}
pub use Rattle.kt_tuple.proofs.Wholes.{length-map_same, none_follows, separated-cons, some_follows}
pub use Rattle.kt_tuple.proofs.WholesRead.{after_last, after_other}
pub use Rattle.kt_tuple.proofs.IntShapes.{int_read, int_takes}
pub use Rattle.kt_tuple.proofs.Outside.{int_range, range_of_int}
pub use Rattle.kt_tuple.proofs.Outcomes.{on_ok}
