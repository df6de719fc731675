-- The parameters of a store and their limits.
use Rattle.std.specs.Prelude.{◌≡◌, ℕ, ◌+◌, ◌*◌, ◌/◌, ◌%◌, ◌^◌, ◌≤◌, ◌||◌, min, nat_lt, if◌then◌else◌, Result, Ok, Err}
use Rattle.tao_base.specs.declared.parameters.Form.{Form}
use Rattle.tao_base.specs.declared.parameters.Form.TheVariants.{One, Two, Turn}
use Rattle.tao_base.specs.declared.parameters.ParamFault.{ParamFault}
use Rattle.tao_base.specs.declared.parameters.ParamFault.TheVariants.{Height, BucketSize, BlockSize, Count, Period, TreeTooLarge}
use Rattle.tao_base.specs.Tree.{node_count}

-- what a store is made for: height l of the tree, z blocks in a bucket, b bytes in a block, n blocks, period k, form
pub record Shape : Type 0 where
  pub l : ℕ
  pub z : ℕ
  pub b : ℕ
  pub n : ℕ
  pub k : ℕ
  pub form : Form

-- the shape of these numbers and this form, in the order of the fields
abbrev pub shape : ℕ → ℕ → ℕ → ℕ → ℕ → Form → Shape
shape l z b n k form = record { l = l; z = z; b = b; n = n; k = k; form = form }

-- bytes of a bucket without its tag: a header of 20, and z slots of an id and a block
abbrev pub slots_len : ℕ → ℕ → ℕ
slots_len z b = 20 + z * (4 + b)

-- bytes behind the slots of a bucket in a store of this form, where its tag has its place: 32, or none in a store without tags
abbrev pub tag_len : Form → ℕ
tag_len One = 0
tag_len Two = 32
tag_len Turn = 32

-- bytes of a bucket of this store, with the place of its tag
abbrev pub bucket_len : Shape → ℕ
bucket_len s = slots_len s.z s.b + tag_len s.form

-- bytes of a tree whose every node holds a bucket
abbrev pub tree_len : Shape → ℕ
tree_len s = node_count s.l * bucket_len s

-- arrivals of one session: at most 65,536, and few enough that the blocks of the record's buckets stay below 2^31 bytes
abbrev pub session_limit : Shape → ℕ
session_limit s = min 65536 (2 ^ 31 / (2 * s.z * (s.l + 1) * (s.b + 8)))

-- the limits, one each
pub record IsShape (s : Shape) : Type 0 where
  pub height_low : 1 ≤ s.l
  pub height_high : s.l ≤ 16
  pub bucket_low : 1 ≤ s.z
  pub bucket_high : s.z ≤ 8
  pub block_low : 4 ≤ s.b
  pub block_high : s.b ≤ 4096
  pub block_words : s.b % 4 ≡ 0
  pub count_low : 1 ≤ s.n
  pub count_high : s.n ≤ s.z * 2 ^ s.l
  pub period_low : 1 ≤ s.k
  pub period_high : s.k ≤ 64
  pub tree : tree_len s ≤ 2 ^ 29

-- the shape of these numbers, or the first limit that they break
abbrev pub shape_of : ℕ → ℕ → ℕ → ℕ → ℕ → Result Shape ParamFault
shape_of l z b n k =
    if nat_lt l 1 || nat_lt 16 l then Err Height
    else (if nat_lt z 1 || nat_lt 8 z then Err BucketSize
    else (if nat_lt b 4 || nat_lt 4096 b || nat_lt 0 (b % 4) then Err BlockSize
    else (if nat_lt n 1 || nat_lt (z * 2 ^ l) n then Err Count
    else (if nat_lt k 1 || nat_lt 64 k then Err Period
    else (if nat_lt (2 ^ 29) (tree_len (shape l z b n k One)) then Err TreeTooLarge
    else Ok (shape l z b n k One))))))

-- the same store in another form, whose buckets may be longer
abbrev pub in_form : Shape → Form → Shape
in_form s form = shape s.l s.z s.b s.n s.k form

-- the same store in this form, or a fault where its tree would then be longer than 2^29 bytes
abbrev pub in_form_or_fault : Shape → Form → Result Shape ParamFault
in_form_or_fault s form = if nat_lt (2 ^ 29) (tree_len (in_form s form)) then Err TreeTooLarge else Ok (in_form s form)
