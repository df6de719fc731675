use Rattle.std.proofs.Common.{ap, ◌∙◌, arith}
use Rattle.tao_tables.specs.Pools.{wanted}
use Rattle.tao_processor.proofs.ReserveKept.{grown_keeps, ready_keeps, counts_small}
use Rattle.tao_processor.proofs.processor.Processor.reserve.Goals as goal

pub wanted_now-wanted-requires-clause-most : goal.wanted_now-wanted-requires-clause-most
wanted_now-wanted-requires-clause-most c = let small = (counts_small c.self.invariant).1 in omega (arith, c.len.ensures)

pub wanted_now-wanted-requires-clause-within : goal.wanted_now-wanted-requires-clause-within
wanted_now-wanted-requires-clause-within c = let small = (counts_small c.self.invariant).0 in omega (arith, c.len.ensures)

pub top_up-requires : goal.top_up-requires
top_up-requires c = record {
  each = c.self.invariant.blocks;
  order_rooms = c.self.invariant.order_rooms;
  stocked = c.self.invariant.rooms_are.stocked;
}

pub invariant_of-self : goal.invariant_of-self
invariant_of-self c =
    ready_keeps c.self.invariant
    (record {
      history_stays = c.in-Ok.ensures.history;
      requests_stay = c.in-Ok.ensures.requests;
      rows_stay = c.in-Ok.ensures.rows;
      count_stays = c.in-Ok.ensures.row_count;
      places_stay = c.in-Ok.ensures.places;
      each = c.in-Ok.ensures.each;
      order_rooms = c.in-Ok.ensures.order_rooms;
      stocked = c.in-Ok.ensures.stocked;
    })
    (c.wanted_now-wanted.ensures ∙ ap (λ n. wanted c.self.inside.p n c.self.inside.dones c.self.inside.issues c.self.inside.acks) c.len.ensures) c.in-Ok.ensures.ok

pub invariant_of-self-in-Err : goal.invariant_of-self-in-Err
invariant_of-self-in-Err c =
    grown_keeps c.self.invariant
    (record {
      history_stays = c.in-Err.ensures.history;
      requests_stay = c.in-Err.ensures.requests;
      rows_stay = c.in-Err.ensures.rows;
      count_stays = c.in-Err.ensures.row_count;
      places_stay = c.in-Err.ensures.places;
      each = c.in-Err.ensures.each;
      order_rooms = c.in-Err.ensures.order_rooms;
      stocked = c.in-Err.ensures.stocked;
    }) c.in-Err.ensures.grown
