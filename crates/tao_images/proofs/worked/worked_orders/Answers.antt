use Rattle.std.proofs.Common.{◌≡◌, ◌<◌, nat_eq, Bool, false, List, [], ◌∷◌, length, take, get_or, refl, ap, ◌∙◌, sym, arith}
use Rattle.std.specs.List.{Contains}
use Rattle.std.proofs.lemmas.Bool.{true≢false}
use Rattle.std.proofs.lemmas.List.Folds.{list_any_at}
use Rattle.rand_chacha.specs.Block.{block_word, double_rounds, diagonal_round, quarter_round, column_round}
use Rattle.rand_core.specs.Steps.{u32_at}
use Rattle.tao_base.specs.declared.session.Event.{Event}
use Rattle.tao_base.specs.declared.session.Event.TheVariants.{Arrive, Done, Issue, Acked, Fault}
use Rattle.tao_base.specs.declared.storage.Bucket.{Bucket}
use Rattle.tao_bucket.specs.Encoding.{encoded, slots_of}
use Rattle.tao_model.specs.Worked.{bucket, entry, all_b, write_backs_out_of_order}
use Rattle.tao_tape.specs.Keystream.{xored, stream_byte}
use Rattle.tao_images.proofs.worked.worked_orders.Goals as goal

is_second : Event → Bool
is_second (Arrive client op word) = false
is_second (Done arrival taken) = false
is_second (Issue version nonce buckets) = nat_eq version 2
is_second (Acked version) = false
is_second (Fault cause) = false

-- the second write-back isn't among the first five events
not_yet : (buckets : List Bucket) → Contains (take 5 write_backs_out_of_order.events) (Issue 2 6 buckets) → ⊥
unfolding is_second
not_yet buckets is =
    true≢false (sym (list_any_at is_second (take 5 write_backs_out_of_order.events) is.0 (Issue 2 6 buckets) is.1 (ap is_second is.2)))

pub returns : goal.returns
unfolding block_word double_rounds diagonal_round quarter_round column_round u32_at xored stream_byte encoded slots_of
returns c = record {
  order = refl;
  issued = (bucket 1 2 6 [] ∷ bucket 3 2 7 (entry 1 all_b ∷ []) ∷ [], (5, omega arith, refl), refl);
  not_yet = λ is. not_yet is.0 is.1;
  mixed = refl;
}
