-- What a session came to, in numbers. The events are newest first.
use Rattle.std.specs.Prelude.{◌≡◌, ℕ, List, map}
use Rattle.std.specs.List.{range_with_len, count_by, sum, sum_by}
use Rattle.tao_base.specs.declared.session.Event.{Event}
use Rattle.tao_base.specs.Session.{Opening}
use Rattle.tao_model.specs.Events.{arrived, issues, buckets_issued}
use Rattle.tao_model.specs.Requests.{is_real}
use Rattle.tao_model.specs.Replies.{plain_reply, released}
use Rattle.tao_trace.specs.declared.counts.Summary.{Summary}

-- how many arrivals are real
abbrev pub reals : List Event → ℕ
reals es = count_by (is_real es) (range_with_len 0 (arrived es))

-- the sum of all bytes of the released replies
abbrev pub reply_sum : Opening → List Event → ℕ
reply_sum o es = sum_by sum (map (plain_reply o es) (range_with_len 0 (released es)))

-- the numbers of a record
pub record IsSummary (o : Opening) (es : List Event) (numbers : Summary) : Type 0 where
  pub arrivals : numbers.arrivals ≡ arrived es
  pub real : numbers.real ≡ reals es
  pub stores : numbers.stores ≡ issues es
  pub buckets : numbers.buckets ≡ buckets_issued es
  pub total : numbers.sum ≡ reply_sum o es
