mod Pieces
mod Rooms
