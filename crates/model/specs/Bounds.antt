-- The bounds of keys and values, which are this project's own, and what follows from them for all that holds keys and
-- values.
use Rattle.std.specs.Prelude.{ℕ, ◌+◌, ◌*◌, ◌/◌}

-- the most bytes of a key, and the digits of this number
abbrev pub key_max : ℕ
key_max = 256

abbrev pub key_digits : ℕ
key_digits = 3

-- the most bytes of a value, and of a part of a request, and the digits of this number
abbrev pub value_max : ℕ
value_max = 16384

abbrev pub value_digits : ℕ
value_digits = 5

-- how long a bulk string of so many bytes is: `$`, its length in so many digits, the line's end, the bytes, the line's
-- end
abbrev pub bulk_size : ℕ → ℕ → ℕ
bulk_size digits n = 1 + digits + 2 + n + 2

-- the longest part of a request, as a bulk string
abbrev pub part_max : ℕ
part_max = bulk_size value_digits value_max

-- the longest request: `*`, one digit, the line's end, and four parts
abbrev pub frame_max : ℕ
frame_max = 1 + 1 + 2 + 4 * part_max

-- the bytes of a session's inbox
abbrev pub inbox_max : ℕ
inbox_max = 8 * value_max

-- the longest reply to RANGE: `*`, three digits, the line's end, and 128 pairs
abbrev pub range_reply_max : ℕ
range_reply_max = 1 + 3 + 2 + 128 * (bulk_size key_digits key_max + part_max)

-- the longest entry of a log record over values of so many bytes: the key's length, the key, what it is, the value's
-- length, the value
abbrev pub entry_bound : ℕ → ℕ
entry_bound value = 2 + key_max + 1 + 4 + value

-- the longest payload: the count, and 64 entries
abbrev pub payload_bound : ℕ → ℕ
payload_bound value = 4 + 64 * entry_bound value

-- the most sectors of a record's body: 44 bytes stand before the payload
abbrev pub body_bound : ℕ → ℕ
body_bound value = (44 + payload_bound value + 511) / 512
