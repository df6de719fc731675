-- Places that are made ready, and rooms of unread paths.
use Rattle.std.proofs.Common.{replicate, Some, None, sym, ap, ◌∙◌, subst, arith, ℕ, List, ◌++◌, Option}
use Rattle.std.proofs.lemmas.Bool.{true≢false}
use Rattle.std.proofs.lemmas.List.{length-append, length-set}
use Rattle.tao_base.specs.Tree.{node_at}
use Rattle.tao_base.specs.Session.{History}
use Rattle.tao_schedule.specs.Moves.{is_served, Move}
use Rattle.tao_tree.specs.Nodes.{TreeState}
use Rattle.tao_world.specs.Shows.{ShowsFetch, ShowsReading, ShowsStore, Shows}
use Rattle.tao_world.specs.Laws.{PlacesShow, RoomShows}
use Rattle.tao_world.proofs.Tables.{some_within, rows_set, rows_more}
use Rattle.tao_world.specs.State.{Reading, Sending}

module _ (ms : List Move) (key : List ℕ) (h : History) (tree : TreeState) (fetches : List (Option Reading)) (stores : List (Option Sending)) (more : ℕ)
    (shows : Shows ms key h tree fetches stores) where
  pub more_fetches : Shows ms key h tree (fetches ++ replicate more None) stores
  more_fetches = record {
    schedule = shows.schedule;
    lawful = shows.lawful;
    honest = shows.honest;
    server = shows.server;
    reads = record {
      places = let long = length-append fetches (replicate more None) in let low = shows.reads.places in omega arith;
      rows = rows_more (ShowsFetch ms key h) fetches more shows.reads.rows;
    };
    puts = shows.puts;
  }

  pub more_stores : Shows ms key h tree fetches (stores ++ replicate more None)
  more_stores = record {
    schedule = shows.schedule;
    lawful = shows.lawful;
    honest = shows.honest;
    server = shows.server;
    reads = shows.reads;
    puts = record {
      places = let long = length-append stores (replicate more None) in let low = shows.puts.places in omega arith;
      rows = rows_more (ShowsStore ms key h) stores more shows.puts.rows;
    };
  }

pub places_show : PlacesShow
places_show ms key h tree fetches stores more more' shows = more_stores ms key h tree (fetches ++ replicate more None) stores more' (more_fetches ms key h tree fetches stores more shows)

pub room_shows : RoomShows
room_shows ms key h tree fetches stores i reading room shows found is = record {
  schedule = shows.schedule;
  lawful = shows.lawful;
  honest = shows.honest;
  server = shows.server;
  reads = record {
    places = let long = length-set fetches i (Some room) in let low = shows.reads.places in omega arith;
    rows = rows_set (ShowsFetch ms key h) fetches i (Some room) (some_within fetches i reading found) here (λ j other. shows.reads.rows j);
  };
  puts = shows.puts;
}
  where
    row : ShowsReading ms key h i reading
    row = subst (ShowsFetch ms key h i) found (shows.reads.rows i)

    here : ShowsReading ms key h i room
    here = record {
      under_way = row.under_way;
      arrival = is.arrival ∙ row.arrival;
      leaf = is.leaf ∙ row.leaf;
      read = λ d within. is.none_too d ∙ sym (is.none d) ∙ row.read d within ∙ ap (λ leaf. is_served ms i (node_at h.opening.shape.l leaf d)) (sym is.leaf);
      bytes = λ d within set. absurd (true≢false (sym set ∙ is.none_too d));
    }
