use Rattle.std.proofs.Common.{◌++◌, ap, ◌∙◌}
use Rattle.std.proofs.lemmas.Result.{on_ok_weaker}
use Rattle.tao_wire.proofs.ContentLemmas.{fetch_frame}
use Rattle.tao_wire.proofs.encoder.encode.Goals as goal

pub returns-in-Fetch-clause-ok : goal.returns-in-Fetch-clause-ok
returns-in-Fetch-clause-ok c =
    let whole = fetch_frame c.args.message.now c.in-Fetch.id c.in-Fetch.leaf c.to_be_bytes.result c.to_be_bytes-in-Fetch.result c.in-Fetch.is c.to_be_bytes.ensures c.to_be_bytes-in-Fetch.ensures in
    on_ok_weaker c.put.result (λ e. e ∙ ap (λ all. c.args.out.now ++ all) whole) c.put.ensures.ok
