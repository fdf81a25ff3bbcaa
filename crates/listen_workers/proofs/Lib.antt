pub mod ChainLemmas
pub mod JoinedLemmas
pub mod WorkerLemmas
pub mod CrewLemmas
pub mod ListenerLemmas
pub mod HandLemmas
pub mod PassLemmas
pub mod SocketWorkLemmas
