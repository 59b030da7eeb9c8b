-- The lines that commands print of what they do.
use Rattle.std.specs.Net.Text.{socket_text}
use Rattle.std.specs.Prelude.{ℕ, List, [], ◌∷◌, ◌++◌, codes}
use Rattle.std.specs.declared.net.socket_addr.SocketAddr.{SocketAddr}

-- the line of the address that is listened at
abbrev pub listening_line : SocketAddr → List ℕ
listening_line address = codes "listening " ++ socket_text address ++ 10 ∷ []

-- the line of a store that has stopped
abbrev pub stopped_line : List ℕ
stopped_line = codes "ssikvd: store stopped" ++ 10 ∷ []

-- the line of a copy whose map was read
abbrev pub copying_line : List ℕ
copying_line = codes "ssikvd: the map is read, the copy is being written" ++ 10 ∷ []
