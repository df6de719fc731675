-- No bucket so far is refused, and the first rooms hold those that were read.
use Rattle.std.proofs.Common.{◌≡◌, ◌≤◌, ◌<◌, [], length, map, take, Some}
use Rattle.std.specs.List.{All, filter_map, range_with_len}
use Rattle.tao_images.specs.Paths.{refusal_at, read_at, IsRoom, held_in}
use Rattle.tao_images.proofs.paths.read_path.Given as goal

abbrev pub invariant-loop-depth : goal.invariant-loop-depth
invariant-loop-depth g l = record {
  few : l.count ≤ l.depth;
  enough : l.p.l < length l.rooms;
  none : filter_map (refusal_at l.key l.p (g.K.Known.skipped l.known) (g.K.Known.version l.known) (g.K.Known.tag l.known) l.leaf l.path) (range_with_len 0 l.depth) ≡ [];
  read : map held_in (take l.count l.rooms) ≡ map Some (filter_map (read_at l.key l.p (g.K.Known.skipped l.known) l.leaf l.path) (range_with_len 0 l.depth));
  rooms : All (IsRoom l.p) l.rooms;
}
