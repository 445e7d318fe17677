-- A core may go to another thread where its parts may.
use denote.RattleType.{RattleType}
use denote.Ref.{NamedLft}
use denote.Struct.Struct.{Struct}
use denote.Struct.Declared as struct
use denote.Enum.Declared as enum
use denote.Param.Send.{IsSend, IsSync, sendable, recorded_send, struct_send, enum_send}
use Rattle.std.proofs.Crossing.{crosses}
use Rattle.py_data.specs.contracts.stop.Conflict as conflict
use Rattle.stm_segment.specs.contracts.books.Books as books
use Rattle.stm_segment.specs.contracts.books.Hand as hand
use Rattle.stm_segment.specs.contracts.books.Work as work
use Rattle.stm_segment.specs.contracts.books.Progress as progress
use Rattle.stm_segment.specs.contracts.recent.Recent as recent
use Rattle.stm_segment.specs.contracts.devices.Devices as devices
use Rattle.stm_core.specs.contracts.transactions.Core as core
use Rattle.stm_workers.specs.contracts.held.Held as held

conflict_sent : IsSend (Struct (struct.shape conflict.the_type))
conflict_sent = search sendable depth 20

recent_sent : IsSend (Struct (struct.shape recent.the_type))
recent_sent = search (sendable, crosses) depth 20

module _ (T : RattleType) (t : IsSend T) where
  progress_sent : IsSend (Struct (struct.shape (progress.the_type T)))
  progress_sent = search (recent_sent, sendable, crosses) depth 20

  work_sent : IsSend (Struct (struct.shape (work.the_type T)))
  work_sent = search (progress_sent, sendable, crosses) depth 20

  hand_sent : IsSend (hand.the_row T)
  hand_sent = recorded_send _ _ _ (hand.the_type T).to_one
      (enum_send (enum.shape (hand.the_type T)) (tt, ((conflict_sent, tt), ((work_sent, tt), tt))))

  books_sent : IsSend (Struct (struct.shape (books.the_type T)))
  -- threads, pending, hands, history, conflicts, begun, last, cause, broken
  books_sent = struct_send (struct.shape (books.the_type T)) (
    search (sendable, crosses) depth 20,
    (
      search sendable,
      (
        search (hand_sent, sendable, crosses) depth 20,
        (
          search (sendable, crosses) depth 20,
          (
            search (sendable, crosses) depth 20,
            (
              search sendable,
              (
                search sendable depth 20,
                (
                  search sendable depth 20,
                  (
                    search sendable depth 20,
                    tt,
                  ),
                ),
              ),
            ),
          ),
        ),
      ),
    ),
  )

devices_sent : (I O E : RattleType) → IsSend I → IsSend O → IsSend E →
    IsSend (Struct (struct.shape (devices.the_type I O E)))
devices_sent I O E i o e = search sendable depth 20

module _ (κ : NamedLft) (C S I O E T : RattleType) (c : IsSync C) (s : IsSend S) (i : IsSend I) (o : IsSend O)
    (e : IsSend E) (t : IsSend T) where
  core_sent : IsSend (Struct (struct.shape (core.the_type κ C S I O E T)))
  core_sent =
      let b = books_sent T t in
      let d = devices_sent I O E i o e in
      search (b, d, sendable, crosses) depth 20

  pub held_sent : IsSend (held.the_row κ C S I O E T)
  held_sent = recorded_send _ _ _ (held.the_type κ C S I O E T).to_one
      (struct_send (struct.shape (held.the_type κ C S I O E T)) (core_sent, tt))
